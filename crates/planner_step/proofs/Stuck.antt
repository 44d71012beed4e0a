-- Broken components where tables cover a state: what is mendable is what can be mended.
use Rattle.std.proofs.Common.{◌≡◌, ◌<◌, ◌↔◌, ℕ, zero, suc, true, List, length, slice_get, slice_index, Some, sym, subst, inl, inr}
use Rattle.std.proofs.lemmas.Bool.{both_ways}
use Rattle.cca_base.specs.Accepted.{CompiledModel}
use Rattle.cca_base.specs.Flags.{is_set}
use Rattle.cca_base.specs.Model.{WellFormed, IsMended, is_broken}
use Rattle.cca_base.specs.Steps.{Reach}
use Rattle.reach_laws.specs.Classes.{OpenRepairs, IsHome, InClass, IsOnWay}
use Rattle.reach_laws.proofs.Facts.{RepairRules, get_at}
use Rattle.reach_laws.proofs.Order.{repair_rules}
use Rattle.reach_laws.proofs.Walk.{way_on, repairs_from, home_member, member_sound}
use Rattle.reach_laws.proofs.Sound.{class_is_reach}
use Rattle.reversibility.specs.ClassParts.{CoversState}
use Rattle.policy_tables.specs.Tables.{TableParts, IsTables}
use Rattle.planner_step.specs.Planning.{member_of}
use Rattle.planner_step.proofs.Covered.{setting, stands_in}
use Rattle.planner_step.specs.Served.{IsStuck}
use Rattle.cca_base.proofs.NextModes.{one_mended}

module _ (t : TableParts) (is : IsTables t) (s : List ℕ) (cov : CoversState t.classes s) where
  abbrev b : CompiledModel
  b = t.classes.compiled

  abbrev well : WellFormed b.model
  well = is.classes.compiled.accepted.well_formed

  abbrev rules : RepairRules b.model
  rules = repair_rules b.model well

  -- a broken component stands on the way
  on_way : (c mode : ℕ) → slice_get s c ≡ Some mode → is_broken b.model.moves c mode ≡ true → IsOnWay b.model t.classes.base (member_of t) c mode
  on_way c mode at broken = elim (stands_in t is s cov c mode at) [
    | inl inside ↦ absurd (both_ways (is_broken b.model.moves c mode) (member_sound b.model t.classes.base (member_of t) rules is.classes.classes c mode inside) broken)
    | inr on ↦ on
  ]

  -- the home of a broken component is its mended mode
  mended_home : (c mode a : ℕ) → slice_get s c ≡ Some mode → is_broken b.model.moves c mode ≡ true → IsHome b.model t.classes.base (member_of t) c a → IsMended b.model.moves c mode a
  mended_home c mode a at broken home =
      let on : IsOnWay b.model t.classes.base (member_of t) c mode = on_way c mode at broken in
      let way = way_on b.model (member_of t) rules c (slice_index t.classes.base c) mode a on.count home.count on.way home.way home.sound in
      record { broken = broken; sound = home.sound; count = way.0; chain = repairs_from b.model (member_of t) rules c mode a way.0 way.1 }

  -- where a component is broken, it was broken in the base
  base_broken : (c mode : ℕ) → slice_get s c ≡ Some mode → is_broken b.model.moves c mode ≡ true → is_broken b.model.moves c (slice_index t.classes.base c) ≡ true
  base_broken c mode at broken = let on = on_way c mode at broken in first on.count on.way
    where
      first : (n : ℕ) → OpenRepairs b.model (member_of t) c (slice_index t.classes.base c) mode n → is_broken b.model.moves c (slice_index t.classes.base c) ≡ true
      first zero e = subst (λ x. is_broken b.model.moves c x ≡ true) (sym e) broken
      first (suc n) p = p.1

  -- a broken component with a mode in its class is mendable
  class_mendable : (c mode x : ℕ) → c < length b.model.components → slice_get s c ≡ Some mode → is_broken b.model.moves c mode ≡ true → member_of t c x ≡ true
      → is_set t.classes.mendable c ≡ true
  class_mendable c mode x within at broken inside =
      let k : InClass b.model t.classes.base (member_of t) c x = (is.classes.classes.each c x).0 inside in
      (is.classes.mendable c within).1 (base_broken c mode at broken, (k.home, k.is_home))

  -- what is stuck has no mode in its class
  pub stuck_empty : (d : ℕ) → IsStuck t.classes s d → (x : ℕ) → member_of t d x ≡ true → ⊥
  stuck_empty d stuck x inside =
      let at : slice_get s d ≡ Some (slice_index s d) = get_at s d (subst (λ n. d < n) (sym cov.state.full) stuck.within) in
      both_ways (is_set t.classes.mendable d) stuck.unmendable (class_mendable d (slice_index s d) x stuck.within at stuck.broken inside)

  -- the mended mode is reached exactly where the component is mendable
  pub mendable_exactly : (c mode a : ℕ) → c < length b.model.components → slice_get s c ≡ Some mode → IsMended b.model.moves c mode a
      → Reach b.model s c a ↔ (is_set t.classes.mendable c ≡ true)
  mendable_exactly c mode a within at mended =
      let broken : is_broken b.model.moves c mode ≡ true = mended.broken in (
        (λ reach. class_mendable c mode a within at broken
            ((class_is_reach b.model b.order t.classes.base (member_of t) s (setting t is s cov) c a).1 (mended.sound, reach))),
        (λ flag.
            let home = ((is.classes.mendable c within).0 flag).1 in
            let home_is : home.0 ≡ a = one_mended b.model.version b.model.moves well.repairs c mode home.0 a (mended_home c mode home.0 at broken home.1) mended in
            let inside : member_of t c a ≡ true = subst (λ y. member_of t c y ≡ true) home_is (home_member b.model t.classes.base (member_of t) rules is.classes.classes c home.0 home.1) in
            ((class_is_reach b.model b.order t.classes.base (member_of t) s (setting t is s cov) c a).0 inside).1),
      )

  -- each component's mode has a mended one where it is broken and mendable
  pub some_mended : (c mode : ℕ) → c < length b.model.components → slice_get s c ≡ Some mode → is_broken b.model.moves c mode ≡ true → is_set t.classes.mendable c ≡ true
      → (a : ℕ) × IsMended b.model.moves c mode a
  some_mended c mode within at broken flag =
      let home = ((is.classes.mendable c within).0 flag).1 in (home.0, mended_home c mode home.0 at broken home.1)

-- What tables give where they cover a state.
use Rattle.std.proofs.Common.{◌≡◌, ◌<◌, ◌⊎◌, ℕ, true, false, List, length, slice_get, Some, [], refl, sym, subst, inl, inr}
use Rattle.std.proofs.lemmas.Option.{slice_get_within}
use Rattle.list_laws.proofs.Places.{value_at}
use Rattle.cca_base.specs.declared.cube.Pair.{Pair}
use Rattle.cca_base.specs.Accepted.{CompiledModel}
use Rattle.cca_base.specs.Model.{HasMode, is_broken}
use Rattle.cca_base.specs.Steps.{Reach}
use Rattle.reach_laws.specs.Classes.{Stands}
use Rattle.reach_laws.specs.Laws.{Setting}
use Rattle.reach_laws.proofs.Order.{repair_rules}
use Rattle.reach_laws.proofs.Walk.{member_within}
use Rattle.reach_laws.proofs.Sound.{member_mode, class_is_reach}
use Rattle.reversibility.specs.ClassParts.{CoversState}
use Rattle.policy_tables.specs.Tables.{TableParts, IsTables}
use Rattle.planner_step.specs.Planning.{member_of}

module _ (t : TableParts) (is : IsTables t) (s : List ℕ) (cov : CoversState t.classes s) where
  abbrev b : CompiledModel
  b = t.classes.compiled

  pub setting : Setting b.model b.order t.classes.base (member_of t) s
  setting = record {
    well_formed = is.classes.compiled.accepted.well_formed;
    ordered = is.classes.compiled.order;
    grounded = is.classes.grounded;
    classes = is.classes.classes;
    state = cov.state;
    covers = cov.covers;
  }

  pub inside_within : (c x : ℕ) → member_of t c x ≡ true → c < length b.model.components
  inside_within c x inside = member_within b.model t.classes.base (member_of t) (repair_rules b.model is.classes.compiled.accepted.well_formed) is.classes.classes c x inside

  pub inside_mode : (c x : ℕ) → member_of t c x ≡ true → HasMode b.model c x
  inside_mode c x inside =
      member_mode b.model t.classes.base (member_of t) (repair_rules b.model is.classes.compiled.accepted.well_formed) is.classes.classes is.classes.grounded c x inside

  pub inside_place : (c x : ℕ) → member_of t c x ≡ true → c < length s
  inside_place c x inside = subst (λ n. c < n) (sym cov.state.full) (inside_within c x inside)

  -- where a component stands
  pub mode_here : (c mode : ℕ) → slice_get s c ≡ Some mode → HasMode b.model c mode
  mode_here c mode at =
      subst (HasMode b.model c) (value_at s c mode at) (cov.state.modes c (subst (λ n. c < n) cov.state.full (slice_get_within s c mode at)))

  pub stands_in : (c mode : ℕ) → slice_get s c ≡ Some mode → Stands b.model t.classes.base (member_of t) c mode
  stands_in c mode at =
      subst (Stands b.model t.classes.base (member_of t) c) (value_at s c mode at) (cov.covers c (subst (λ n. c < n) cov.state.full (slice_get_within s c mode at)))

  -- what is held, or in the classes, is what allowed plans reach
  pub reach_from : (p : Pair) → (slice_get s p.item ≡ Some p.value) ⊎ (member_of t p.item p.value ≡ true) → Reach b.model s p.item p.value
  reach_from p (inl held) = ([], s, refl, held)
  reach_from p (inr inside) = ((class_is_reach b.model b.order t.classes.base (member_of t) s setting p.item p.value).0 inside).1

  pub reach_inside : (p : Pair) → is_broken b.model.moves p.item p.value ≡ false → Reach b.model s p.item p.value → member_of t p.item p.value ≡ true
  reach_inside p sound reach = (class_is_reach b.model b.order t.classes.base (member_of t) s setting p.item p.value).1 (sound, reach)

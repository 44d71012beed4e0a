-- Plans that grow command by command.
use Rattle.std.proofs.Common.{◌≡◌, ◌<◌, ℕ, true, List, [], ◌∷◌, ◌++◌, length, Contains, refl, sym, subst, arith, length-append}
use Rattle.std.proofs.lemmas.Bool.{both_ways}
use Rattle.std.proofs.lemmas.List.Elements.{All-contains, Contains-append_right}
use Rattle.list_laws.proofs.Members.{contains_here}
use Rattle.cca_base.specs.declared.cube.Pair.{Pair}
use Rattle.cca_base.specs.Accepted.{CompiledModel}
use Rattle.cca_base.specs.Orders.{AreInOrder}
use Rattle.cca_base.specs.State.{Extends}
use Rattle.cca_base.specs.Steps.{Step}
use Rattle.cca_base.specs.Choice.{PicksForGoal}
use Rattle.cca_base.specs.Plans.{Whole}
use Rattle.reach_laws.specs.Classes.{AreInside}
use Rattle.reach_laws.specs.Plans.{IsFirstOutside}
use Rattle.reach_laws.proofs.PlanLaws.{serialisation}
use Rattle.reach_laws.proofs.Answered.{next_setting}
use Rattle.reversibility.specs.ClassParts.{CoversState}
use Rattle.policy_tables.specs.Tables.{TableParts, IsTables}
use Rattle.planner_step.specs.Planning.{cells_of, member_of}
use Rattle.planner_step.proofs.Covered.{setting}
use Rattle.plan_runner.specs.Walked.{WholeTo}

module _ (b : CompiledModel) (goal : List Pair) where
  pub whole_more : (s : List ℕ) (ks : List ℕ) (at next : List ℕ) (k : ℕ) → WholeTo b goal s ks at → (Extends at goal → ⊥) → PicksForGoal b at goal k → Step b.model at k next
      → WholeTo b goal s (ks ++ k ∷ []) next
  whole_more s [] at next k e missing picks step = (
    (λ held. missing (subst (λ x. Extends x goal) (sym e) held)),
    subst (λ x. PicksForGoal b x goal k) e picks,
    next,
    subst (λ x. Step b.model x k next) e step,
    refl,
  )
  whole_more s (l ∷ ks) at next k whole missing picks step = (whole.0, whole.1, whole.2, whole.3, whole_more whole.2 ks at next k whole.4 missing picks step)

  whole_join : (s : List ℕ) (ks : List ℕ) (at : List ℕ) (ls last : List ℕ) → WholeTo b goal s ks at → Whole b goal at ls last → Whole b goal s (ks ++ ls) last
  whole_join s [] at ls last e rest = subst (λ x. Whole b goal x ls last) e rest
  whole_join s (k ∷ ks) at ls last whole rest = (whole.0, whole.1, whole.2, whole.3, whole_join whole.2 ks at ls last whole.4 rest)

  pub whole_end : (s : List ℕ) (ks : List ℕ) (at : List ℕ) → WholeTo b goal s ks at → Extends at goal → Whole b goal s ks at
  whole_end s [] at e held = (subst (λ x. Extends x goal) e held, e)
  whole_end s (k ∷ ks) at whole held = (whole.0, whole.1, whole.2, whole.3, whole_end whole.2 ks at whole.4 held)

  longer : (s ks last : List ℕ) → Whole b goal s ks last → (Extends s goal → ⊥) → 0 < length ks
  longer s [] last whole missing = absurd (missing whole.0)
  longer s (k ∷ ks) last whole missing = omega arith

module _ (t : TableParts) (is : IsTables t) (goal : List Pair) (inside : AreInside (member_of t) goal) where
  abbrev b : CompiledModel
  b = t.classes.compiled

  -- what is picked keeps the state covered
  pub covers_next : (at next : List ℕ) (k : ℕ) → CoversState t.classes at → PicksForGoal b at goal k → Step b.model at k next → CoversState t.classes next
  covers_next at next k cov picks step =
      let after = next_setting b t.classes.base (member_of t) goal inside at next k (setting t is at cov) picks step in
      record { state = after.state; covers = after.covers }

  -- a goal in the classes is not lost
  pub never_lost : (p : Pair) → IsFirstOutside (member_of t) goal p → ⊥
  never_lost p h = both_ways (member_of t p.item p.value) h.outside (All-contains (λ q. member_of t q.item q.value ≡ true) goal p inside
      (subst (λ l. Contains l p) (sym h.split) (Contains-append_right h.before (p ∷ h.after) p (contains_here p p h.after refl))))

  -- where as many commands were picked as may be shown, and the goal does not stand, there are too many
  module _ (in_order : AreInOrder t.classes.compiled.order goal) where
    pub too_many : (s ks at : List ℕ) (most : ℕ) → WholeTo b goal s ks at → CoversState t.classes at → (Extends at goal → ⊥) → length ks ≡ most
        → (all last : List ℕ) × Whole b goal s all last × (most < length all)
    too_many s ks at most whole cov missing full =
        let rest = serialisation b t.classes.base (member_of t) (cells_of t) is.classes.compiled is.cells.policy at (setting t is at cov) goal in_order inside in
        let more = longer b goal at rest.0 rest.1 rest.2 missing in
        (ks ++ rest.0, rest.1, whole_join b goal s ks at rest.0 rest.1 whole rest.2, omega (arith, length-append ks rest.0, more, full))

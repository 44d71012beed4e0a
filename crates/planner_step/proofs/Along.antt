-- What holds all along a whole plan.
use Rattle.std.proofs.Common.{◌≡◌, ◌≤◌, ℕ, true, List, [], ◌∷◌, ◌++◌, length, sym, subst, ◌∙◌}
use Rattle.cca_base.specs.declared.cube.Pair.{Pair}
use Rattle.cca_base.specs.Accepted.{CompiledModel, IsCompiled}
use Rattle.cca_base.specs.Bounds.{stated_number}
use Rattle.cca_base.specs.Model.{WellFormed}
use Rattle.cca_base.specs.Orders.{AreInOrder}
use Rattle.cca_base.specs.State.{Extends}
use Rattle.cca_base.specs.Steps.{Run, AllowedPlan}
use Rattle.cca_base.specs.Plans.{Whole}
use Rattle.reach_laws.specs.Classes.{Test, AreInside}
use Rattle.reach_laws.specs.Laws.{Setting}
use Rattle.cca_base.proofs.Commands.{one_step}
use Rattle.reach_laws.proofs.PlanLaws.{serialisation}
use Rattle.reach_laws.proofs.Sound.{stays_covered_law}
use Rattle.reach_laws.proofs.Answered.{whole_is_allowed, empty_stays}
use Rattle.reach_laws.proofs.Needed.{standing_stays, others_stay}
use Rattle.reach_laws.proofs.Picks.{one_whole}
use Rattle.reversibility.specs.ClassParts.{CoversState}
use Rattle.policy_tables.specs.Tables.{TableParts, IsTables}
use Rattle.planner_step.specs.Planning.{cells_of, member_of}
use Rattle.planner_step.proofs.Covered.{setting}
use Rattle.planner_step.specs.Served.{IsPartWay, KeepsStanding, StaysAlong, IsApart, IsPlanTo}
use Rattle.planner_step.proofs.Stuck.{stuck_empty}

module _ (b : CompiledModel) (compiled : IsCompiled b) where
  -- commands lead to one state
  whole_split : (goal : List Pair) (s first rest mid last : List ℕ) → Whole b goal s (first ++ rest) last → Run b.model s first mid → Whole b goal mid rest last
  whole_split goal s [] rest mid last whole run = subst (λ x. Whole b goal x rest last) (sym run) whole
  whole_split goal s (k ∷ first) rest mid last whole run =
      let same : whole.2 ≡ run.0 = (one_step b.model compiled.accepted.well_formed.commands s whole.2 run.0 k whole.3 run.1).1 in
      whole_split goal run.0 first rest mid last (subst (λ x. Whole b goal x (first ++ rest) last) same whole.4) run.2

  allowed_split : (s first rest mid last : List ℕ) → AllowedPlan b.model s (first ++ rest) last → Run b.model s first mid → AllowedPlan b.model s first mid
  allowed_split s [] rest mid last plan run = run
  allowed_split s (k ∷ first) rest mid last plan run =
      let same : plan.0 ≡ run.0 = (one_step b.model compiled.accepted.well_formed.commands s plan.0 run.0 k plan.1.step run.1).1 in (
        plan.0,
        plan.1,
        allowed_split plan.0 first rest mid last plan.2 (subst (λ x. Run b.model x first mid) (sym same) run.2),
      )

  whole_after : (goal : List Pair) (s ks last mid rest : List ℕ) → Whole b goal s ks last → IsPartWay b.model s ks mid rest → Whole b goal mid rest last
  whole_after goal s ks last mid rest whole h = whole_split goal s h.first rest mid last (subst (λ l. Whole b goal s l last) h.split whole) h.run

  -- what stands of the goal's beginning goes on standing
  module _ (goal : List Pair) (in_order : AreInOrder b.order goal) (before after : List Pair) (split : goal ≡ before ++ after) where
    stands_on : (s first rest mid last : List ℕ) → Whole b goal s (first ++ rest) last → Run b.model s first mid → Extends s before → Extends mid before
    stands_on s [] rest mid last whole run held = subst (λ x. Extends x before) (sym run) held
    stands_on s (k ∷ first) rest mid last whole run held =
        let same : whole.2 ≡ run.0 = (one_step b.model compiled.accepted.well_formed.commands s whole.2 run.0 k whole.3 run.1).1 in
        stands_on whole.2 first rest mid last whole.4 (subst (λ x. Run b.model x first mid) (sym same) run.2)
        (standing_stays b s whole.2 goal before after k compiled in_order whole.1 whole.3 split held)

  keeps_standing : (goal : List Pair) → AreInOrder b.order goal → (s ks last : List ℕ) → Whole b goal s ks last → KeepsStanding b.model goal s ks
  keeps_standing goal in_order s ks last whole before after split early left h held late rest k =
      stands_on goal in_order before after split early k.first rest late last (subst (λ l. Whole b goal early l last) k.split (whole_after goal s ks last early left whole h)) k.run held

  apart_stays : (goal : List Pair) (s ks last : List ℕ) → Whole b goal s ks last → (d : ℕ) → IsApart b.model goal d → StaysAlong b.model s ks d
  apart_stays goal s ks last whole d apart mid rest h =
      let w : WellFormed b.model = compiled.accepted.well_formed in
      sym (others_stay b goal mid rest last d w (whole_after goal s ks last mid rest whole h) apart) ∙ others_stay b goal s ks last d w whole apart

  module _ (base : List ℕ) (member : Test) (goal : List Pair) (inside : AreInside member goal) where
    pub empty_along : (s ks last : List ℕ) → Setting b.model b.order base member s → Whole b goal s ks last → (d : ℕ) → ((x : ℕ) → member d x ≡ true → ⊥) → StaysAlong b.model s ks d
    empty_along s ks last g whole d none mid rest h =
        let plan : AllowedPlan b.model s ks last = (whole_is_allowed b base member s g goal ks last inside whole).0 in
        let front : AllowedPlan b.model s h.first mid = allowed_split s h.first rest mid last (subst (λ l. AllowedPlan b.model s l last) h.split plan) h.run in
        let there : Setting b.model b.order base member mid = stays_covered_law b.model b.order base member s g mid h.first front in
        sym (empty_stays b base member mid there goal rest last inside (whole_after goal s ks last mid rest whole h) d none) ∙ empty_stays b base member s g goal ks last inside whole d none

-- ---- whole plans

module _ (t : TableParts) (is : IsTables t) (s : List ℕ) (cov : CoversState t.classes s) (goal : List Pair) (in_order : AreInOrder t.classes.compiled.order goal)
    (inside : AreInside (member_of t) goal) where
  pub plan_of : (ks last : List ℕ) → Whole t.classes.compiled goal s ks last → IsPlanTo t s goal ks last
  plan_of ks last whole =
      let b : CompiledModel = t.classes.compiled in
      let g : Setting b.model b.order t.classes.base (member_of t) s = setting t is s cov in
      let made = whole_is_allowed b t.classes.base (member_of t) s g goal ks last inside whole in
      let some = serialisation b t.classes.base (member_of t) (cells_of t) is.classes.compiled is.cells.policy s g goal in_order inside in
      let same : ks ≡ some.0 = (one_whole b goal s ks last some.0 some.1 is.classes.compiled whole some.2).0 in
      record {
        whole = whole;
        allowed = made.0;
        few = subst (λ l. length l ≤ stated_number b.bounds goal) (sym same) some.4;
        stands = made.1;
        covers = record { state = made.2.state; covers = made.2.covers };
        keeps = keeps_standing b is.classes.compiled goal in_order s ks last whole;
        apart = λ d. apart_stays b is.classes.compiled goal s ks last whole d;
        stuck = λ d stuck. empty_along b is.classes.compiled t.classes.base (member_of t) goal inside s ks last g whole d (stuck_empty t is s cov d stuck);
      }

  pub some_plan : (ks last : List ℕ) × Whole t.classes.compiled goal s ks last
  some_plan =
      let b : CompiledModel = t.classes.compiled in
      let some = serialisation b t.classes.base (member_of t) (cells_of t) is.classes.compiled is.cells.policy s (setting t is s cov) goal in_order inside in
      (some.0, some.1, some.2)

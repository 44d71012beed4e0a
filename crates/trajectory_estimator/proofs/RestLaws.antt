-- What stands for a mode before a record is what walks cost at least from there.
use Rattle.std.proofs.Common.{◌≡◌, ℕ, zero, suc, true, ◌<◌, ◌≤◌, ◌+◌, ◌-◌, List, length, Option, None, Some, slice_index, slice_index_or, add-one, refl, sym, ap, subst, ◌∙◌, arith}
use Rattle.cca_base.specs.Model.{HasMode, WellFormed}
use Rattle.cca_base.specs.Sets.{has}
use Rattle.cca_base.specs.State.{IsState}
use Rattle.cca_base.specs.declared.limits.TheConstants.{MAX_COST}
use Rattle.trajectory_estimator.specs.Rests.{AreInside, AreRests, IsAhead, IsLeastFrom, MayStand, modes_of, row_at, total_of, whole_cost}
use Rattle.trajectory_estimator.specs.Steps.{AreCheap, IsLeastOf, IsStep}
use Rattle.trajectory_estimator.specs.WalkLaws.{step_cheap, step_mode, walk_modes}
use Rattle.trajectory_estimator.specs.Walks.{gate_place, mode_before, mode_place, sum_below}
use Rattle.trajectory_estimator.specs.declared.component_query.ComponentQuery.{ComponentQuery}
use Rattle.trajectory_estimator.specs.declared.step.Ahead.{Ahead}
use Rattle.trajectory_estimator.specs.declared.step.Step.{Step}

-- the sets of a record with what stands behind it
abbrev pub ahead_at : ComponentQuery → ℕ → List (Option ℕ) → Ahead
ahead_at x at behind = record {
  modes = slice_index x.masks.now (mode_place x.query.now x.component at);
  gates = slice_index x.masks.now (gate_place x.query.now x.component at);
  rests = record { ref_ptr = (0, 0); now = behind };
}

pub is_ahead : (x : ComponentQuery) (at : ℕ) (behind : List (Option ℕ)) → IsAhead x at behind (ahead_at x at behind)
is_ahead x at behind = record { modes = refl; gates = refl; rests = refl }

-- sets that are the same, with the same behind them, have the same steps
module _ (x : ComponentQuery) (at : ℕ) (behind : List (Option ℕ)) (from : ℕ) where
  step_alike : (a b : Ahead) (s : Step) → IsAhead x at behind a → IsAhead x at behind b → IsStep x.query.now x.component at from a s → IsStep x.query.now x.component at from b s
  step_alike a b s one other is = record {
    to = subst (λ set. has set s.to ≡ true) (one.modes ∙ sym other.modes) is.to;
    gate = subst (λ set. has set s.gate ≡ true) (one.gates ∙ sym other.gates) is.gate;
    costs = is.costs;
    rest = is.rest;
    behind = subst (λ row. slice_index_or row s.to None ≡ Some is.rest) (one.rests ∙ sym other.rests) is.behind;
    total = is.total;
  }

  pub least_alike : (a : Ahead) (step : Option Step) → IsAhead x at behind a → IsLeastOf (IsStep x.query.now x.component at from a) step → IsLeastFrom x at behind from step
  least_alike a None one least = λ b other s is. least s (step_alike b a s other one is)
  least_alike a (Some s) one least = λ b other. (step_alike a b s one other least.0, λ t is. least.1 t (step_alike b a t other one is))

  -- a step costs no more than a failure with what comes behind it
  pub total_cheap : (s : Step) (most : ℕ) → WellFormed x.query.now.model → HasMode x.query.now.model x.component from → IsLeastFrom x at behind from (Some s) → AreCheap (modes_of x) most behind
      → s.total ≤ most + MAX_COST
  total_cheap s most good mode least cheap =
      let is = (least (ahead_at x at behind) (is_ahead x at behind)).0 in
      let to : HasMode x.query.now.model x.component s.to = step_mode x.query.now x.component at s.gate from s.to s.own good mode is.costs in
      omega (arith, is.total, cheap s.to is.rest to is.behind, step_cheap x.query.now x.component at s.gate from s.to s.own good is.costs)

-- where there is a step, the least costs no more
no_more : (Steps : Step → Type 0) (step : Option Step) (o : Option ℕ) (mine : Step) → IsLeastOf Steps step → o ≡ total_of step → Steps mine
    → (rest : ℕ) × (o ≡ Some rest) × (rest ≤ mine.total)
no_more Steps None o mine least e is = absurd (least mine is)
no_more Steps (Some s) o mine least e is = (s.total, e, least.1 mine is)

module _ (x : ComponentQuery) (room : List (Option ℕ)) (good : WellFormed x.query.now.model) (state : IsState x.query.now.model x.query.now.anchor) (rests : AreRests x room)
    (values : List ℕ) (own : ℕ → ℕ) (inside : AreInside x values own) where
  -- what stands for the walk's mode before a record is no more than what its steps cost from there
  abbrev IsLeastAt : ℕ → Type 0
  IsLeastAt at = (rest : ℕ) × (slice_index_or (row_at room at) (mode_before x.query.now x.component values at) None ≡ Some rest) × (sum_below at own + rest ≤ whole_cost x own)

  may_stand : (at : ℕ) → at ≤ length x.query.now.records → MayStand x at (mode_before x.query.now x.component values at)
  may_stand zero within = refl
  may_stand (suc at) within = inside.modes at (omega (arith, within))

  has_mode : (at : ℕ) → at ≤ length x.query.now.records → HasMode x.query.now.model x.component (mode_before x.query.now x.component values at)
  has_mode = walk_modes x.query.now x.component values own good state inside.steps

  at_last : (at : ℕ) → at ≡ length x.query.now.records → IsLeastAt at
  at_last at e =
      let mode : ℕ = mode_before x.query.now x.component values at in
      let within : at ≤ length x.query.now.records = omega (arith, e) in (
        0,
        subst (λ k. slice_index_or (row_at room k) mode None ≡ Some 0) (sym e) (rests.last mode (has_mode at within)),
        omega (arith, ap (λ k. sum_below k own) e),
      )

  one_before : (at : ℕ) → at < length x.query.now.records → IsLeastAt (suc at) → IsLeastAt at
  one_before at within (rest, behind, least) =
      let mode : ℕ = mode_before x.query.now x.component values at in
      let mine : Step = record {
        to = slice_index values (mode_place x.query.now x.component at);
        gate = slice_index values (gate_place x.query.now x.component at);
        own = own at;
        total = own at + rest;
      } in
      let row : List (Option ℕ) = row_at room (at + 1) in
      let stands : slice_index_or row mine.to None ≡ Some rest = ap (λ k. slice_index_or (row_at room k) mine.to None) (add-one at) ∙ behind in
      let is : IsStep x.query.now x.component at mode (ahead_at x at row) mine =
      record { to = inside.modes at within; gate = inside.gates at within; costs = inside.steps.each at within; rest = rest; behind = stands; total = refl } in
      let totals = rests.each at (omega arith) within mode (has_mode at (omega (arith, within))) (may_stand at (omega (arith, within))) in
      let (total, here, less) = no_more (IsStep x.query.now x.component at mode (ahead_at x at row)) totals.0 (slice_index_or (row_at room at) mode None) mine
      (totals.1 (ahead_at x at row) (is_ahead x at row)) totals.2 is in
      (total, here, omega (arith, less, least))

  least_from : (left at : ℕ) → at + left ≡ length x.query.now.records → IsLeastAt at
  least_from zero at e = at_last at (omega (arith, e))
  least_from (suc left) at e = one_before at (omega (arith, e)) (least_from left (suc at) (omega (arith, e)))

pub rests_least : (x : ComponentQuery) (room : List (Option ℕ)) → WellFormed x.query.now.model → IsState x.query.now.model x.query.now.anchor → AreRests x room
    → (values : List ℕ) (own : ℕ → ℕ) → AreInside x values own → (at : ℕ) → at ≤ length x.query.now.records
    → (rest : ℕ) × (slice_index_or (row_at room at) (mode_before x.query.now x.component values at) None ≡ Some rest) × (sum_below at own + rest ≤ whole_cost x own)
rests_least x room good state rests values own inside at within =
    least_from x room good state rests values own inside (length x.query.now.records - at) at (omega (arith, within))

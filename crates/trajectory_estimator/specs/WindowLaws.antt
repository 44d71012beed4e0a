-- What holds of a window's question.
use Rattle.std.proofs.Common.{◌≡◌, ℕ, zero, suc, ◌<◌, ◌≤◌, ◌+◌, ◌*◌, Bool, true, false, List, length, All, slice_index, refl, sym, subst, ◌∙◌, inl, inr, arith}
use Rattle.std.proofs.Math.Nat.{mul-le-mul_left}
use Rattle.std.proofs.lemmas.Bool.{cases_lt}
use Rattle.std.proofs.lemmas.List.{get_or_past}
use Rattle.std.proofs.lemmas.List.Elements.{All-append, All-contains, All-nil}
use Rattle.cca_base.proofs.PathLaws.{numbers_are_below}
use Rattle.cca_base.specs.LeastCosts.{failing}
use Rattle.cca_base.specs.Successors.{ChangeCosts}
use Rattle.cca_base.specs.declared.limits.TheConstants.{MAX_COMPONENTS, MAX_COST, MAX_ROWS}
use Rattle.cca_base.specs.declared.model.Failure.{Failure}
use Rattle.cca_base.specs.Relations.{numbers_below}
use Rattle.group_search.specs.declared.columns.TheConstants.{MAX_PATH}
use Rattle.trajectory_estimator.specs.PlaceLaws.{gate_own, length-places, mode_own}
use Rattle.trajectory_estimator.specs.Walks.{IsWalk, StepAt, StepBy, gate_place, mode_before, mode_place, stands_for, sum_below}
use Rattle.trajectory_estimator.specs.Windows.{IsWindow, rows_of, window_of}
use Rattle.trajectory_estimator.specs.declared.paths.WindowPaths.{WindowPaths}
use Rattle.trajectory_estimator.specs.declared.record.TheConstants.{MAX_WINDOW}

-- ---- rows of components

rows_below : (count n : ℕ) → All (λ c. c < n) (rows_of count (numbers_below n))
rows_below zero n = All-nil (λ c. c < n)
rows_below (suc count) n = All-append (λ c. c < n) (rows_of count (numbers_below n)) (numbers_below n) (rows_below count n) (numbers_are_below n)

-- each place is one of a component
pub window_owned : (x : WindowPaths) → All (λ c. c < (window_of x.query.now).count) (window_of x.query.now).of
window_owned x = rows_below (length x.query.now.records + length x.query.now.records) (length x.query.now.model.components)

at_most : (a b c d : ℕ) → a ≤ b → c ≤ d → a * c ≤ b * d
at_most a b c d le more =
    let first : a * c ≤ a * d = mul-le-mul_left a more in
    let second : d * a ≤ d * b = mul-le-mul_left d le in
    omega arith

-- there are not too many
pub window_few : (x : WindowPaths) → ((window_of x.query.now).count ≤ MAX_ROWS) × (length (window_of x.query.now).of ≤ MAX_ROWS)
window_few x =
    let components : length x.query.now.model.components ≤ MAX_COMPONENTS = x.few_components in
    let records : length x.query.now.records ≤ MAX_WINDOW = x.few_records in
    let product : (length x.query.now.records + length x.query.now.records) * length x.query.now.model.components ≤ 16 * MAX_COMPONENTS =
    at_most (length x.query.now.records + length x.query.now.records) 16 (length x.query.now.model.components) MAX_COMPONENTS (omega arith) components in
    (omega arith, omega (arith, length-places x.query.now, product))

-- ---- what a walk costs

-- a value that is small enough stands for a gate
stands_some : (value : ℕ) → value < 3 → (gate : Bool) × (stands_for value gate ≡ true)
stands_some zero small = (false, refl)
stands_some (suc zero) small = (true, refl)
stands_some (suc (suc zero)) small = (true, refl)
stands_some (suc (suc (suc value))) small = absurd (omega arith)

-- no sum is dearer than its parts allow
sum_cheap : (n most : ℕ) (f : ℕ → ℕ) → ((k : ℕ) → k < n → f k ≤ most) → sum_below n f ≤ n * most
sum_cheap zero most f each = omega arith
sum_cheap (suc n) most f each = omega (arith, each n (omega arith), sum_cheap n most f (λ k less. each k (omega (arith, less))))

module _ (x : WindowPaths) where
  change_cheap : (c from nominal to cost : ℕ) → ChangeCosts x.query.now.model c from nominal to cost → cost ≤ MAX_COST
  change_cheap c from nominal to cost (inl (same, nothing)) = omega (arith, nothing)
  change_cheap c from nominal to cost (inr (other, failure, least)) = All-contains (λ (failure : Failure). failure.cost ≤ MAX_COST) x.query.now.model.failures (failing c from to cost) x.cheap failure

  step_little : (c at value from to own : ℕ) → StepBy x.query.now c at value from to own → own ≤ MAX_COST
  step_little c at value from to own step =
      let (gate, stands) = stands_some value step.small in
      let (nominal, sends, change) = step.each gate stands in
      change_cheap c from nominal to own change

  walk_little : (c cost : ℕ) (values : List ℕ) → IsWalk x.query.now c values cost → cost ≤ MAX_PATH
  walk_little c cost values h =
      let all : sum_below (length x.query.now.records) h.own ≤ length x.query.now.records * MAX_COST =
      sum_cheap (length x.query.now.records) MAX_COST h.own (λ at within.
      step_little c at (slice_index values (gate_place x.query.now c at)) (mode_before x.query.now c values at) (slice_index values (mode_place x.query.now c at)) (h.own at) (h.steps.each at within)) in
      let records : length x.query.now.records ≤ MAX_WINDOW = x.few_records in
      let cost_is = h.total in
      omega arith

-- a solution has a value for each place, and a walk isn't dear
pub window_whole : (x : WindowPaths) (values costs : List ℕ) → IsWindow x.query.now values costs
    → (length values ≡ length (window_of x.query.now).of) × ((c : ℕ) → slice_index costs c ≤ MAX_PATH)
window_whole x values costs h = (
  h.places ∙ sym (length-places x.query.now),
  λ c. elim (cases_lt c (length x.query.now.model.components)) [
    | inl inside ↦ walk_little x c (slice_index costs c) values (h.walks c inside)
    | inr behind ↦
        let none : slice_index costs c ≡ 0 = get_or_past costs c 0 (omega (arith, h.full, behind)) in
        omega (arith, none)
  ],
)

module _ (x : WindowPaths) (c : ℕ) (inside : c < length x.query.now.model.components) (values others : List ℕ)
    (same : (place : ℕ) → place < length (window_of x.query.now).of → slice_index (window_of x.query.now).of place ≡ c → slice_index values place ≡ slice_index others place) where
  same_mode : (at : ℕ) → at < length x.query.now.records → slice_index values (mode_place x.query.now c at) ≡ slice_index others (mode_place x.query.now c at)
  same_mode at within =
      let own = mode_own x.query.now c at inside within in
      same (mode_place x.query.now c at) (omega (arith, own.within, length-places x.query.now)) own.own

  same_gate : (at : ℕ) → at < length x.query.now.records → slice_index values (gate_place x.query.now c at) ≡ slice_index others (gate_place x.query.now c at)
  same_gate at within =
      let own = gate_own x.query.now c at inside within in
      same (gate_place x.query.now c at) (omega (arith, own.within, length-places x.query.now)) own.own

  same_before : (at : ℕ) → at < length x.query.now.records → mode_before x.query.now c values at ≡ mode_before x.query.now c others at
  same_before zero within = refl
  same_before (suc at) within = same_mode at (omega (arith, within))

  same_step : (at own : ℕ) → at < length x.query.now.records → StepAt x.query.now c values at own → StepAt x.query.now c others at own
  same_step at own within step =
      subst (λ gate. StepBy x.query.now c at gate (mode_before x.query.now c others at) (slice_index others (mode_place x.query.now c at)) own) (same_gate at within)
      (subst (λ from. StepBy x.query.now c at (slice_index values (gate_place x.query.now c at)) from (slice_index others (mode_place x.query.now c at)) own) (same_before at within)
      (subst (λ to. StepBy x.query.now c at (slice_index values (gate_place x.query.now c at)) (mode_before x.query.now c values at) to own) (same_mode at within) step))

-- what a walk costs depends on the component's own places alone
pub window_own : (x : WindowPaths) (c cost : ℕ) (values others : List ℕ)
    → ((place : ℕ) → place < length (window_of x.query.now).of → slice_index (window_of x.query.now).of place ≡ c → slice_index values place ≡ slice_index others place)
    → IsWalk x.query.now c values cost → IsWalk x.query.now c others cost
window_own x c cost values others same h = record {
  own = h.own;
  steps = record {
    component = h.steps.component;
    each = λ at within. same_step x c h.steps.component values others same at (h.own at) within (h.steps.each at within);
  };
  total = h.total;
}

-- Each trajectory is a solution of its window's question, with its states as the first values.
use Rattle.std.proofs.Common.{◌≡◌, ◌⊎◌, inl, inr, ℕ, zero, suc, ◌+◌, ◌*◌, ◌-◌, ◌<◌, ◌≤◌, Bool, true, false, cond, List, [], ◌++◌, length, map, sum, get_or, take, replicate, slice_index, refl, sym, ap, subst, ◌∙◌, arith}
use Rattle.std.proofs.lemmas.List.{get_or-append_right, get_or-map, get_or-replicate, get_or_append_left, length-append, length-map, length-replicate, take_at}
use Rattle.std.proofs.lemmas.List.Elements.{All-append, All-contains, All-map}
use Rattle.cca_base.specs.Model.{IsMove, WellFormed}
use Rattle.cca_base.specs.Sets.{has}
use Rattle.cca_base.specs.Shown.{CanShow}
use Rattle.cca_base.specs.State.{IsState}
use Rattle.cca_base.specs.declared.model.Move.{Move}
use Rattle.cca_base.proofs.Within.{mode_within}
use Rattle.group_search.specs.Floors.{every}
use Rattle.group_search.specs.Questions.{IsInside}
use Rattle.trajectory_estimator.specs.Asked.{Asked}
use Rattle.trajectory_estimator.specs.PlaceLaws.{length-places}
use Rattle.trajectory_estimator.specs.Walks.{IsWalk, StepBy, StepCosts, gate_place, mode_before, mode_place, places, record_at, stands_for}
use Rattle.trajectory_estimator.specs.Windows.{AreFirstMasks, HasGate, IsWindow, state_at, state_before, window_of}
use Rattle.trajectory_estimator.proofs.RecordLaws.{StepOf, before, gate_at, length-gates, path_steps, shown_at, wide_states}
use Rattle.trajectory_estimator.proofs.WindowRows.{AreWide, at_joined, joined, joined-append, length-joined, place_cases, row_of_joined}
use Rattle.window_laws.specs.Columns.{AreGates, IsGate, IsOwn, Path, column}
use Rattle.window_laws.specs.Trajectories.{Trajectory}
use Rattle.window_laws.proofs.Interleaved.{gates_of, paths_of}
use Rattle.window_laws.proofs.Paths.{length-trajectory}

-- what stands for a gate alone
abbrev pub value_of : Bool → ℕ
value_of g = cond g 1 0

value_stands : (g : Bool) → stands_for (value_of g) g ≡ true
value_stands true = refl
value_stands false = refl

value_alone : (g h : Bool) → stands_for (value_of g) h ≡ true → g ≡ h
value_alone true true e = refl
value_alone true false e = absurd cc
value_alone false true e = absurd cc
value_alone false false e = refl

value_small : (g : Bool) → value_of g < 3
value_small true = omega arith
value_small false = omega arith

-- a step by a gate is one by its value
step_by : (q : Asked) (c at : ℕ) (g : Bool) (from to own : ℕ) → StepCosts q.model c (record_at q at).command g from to own → StepBy q c at (value_of g) from to own
step_by q c at g from to own step = record {
  small = value_small g;
  each = λ h stands. subst (λ x. StepCosts q.model c (record_at q at).command x from to own) (value_alone g h stands) step;
}

-- the component of an own move
own_component : (q : Asked) (at c from : ℕ) (move : Move) → WellFormed q.model → IsOwn q.model c (record_at q at).command from move → c < length q.model.components
own_component q at c from move good own =
    let is_move : IsMove q.model move = All-contains (IsMove q.model) q.model.moves move good.moves own.of_model in
    omega (arith, mode_within q.model move.component move.source is_move.source, own.own)

-- a row with a gate's value for each component
abbrev pub gate_rows : ℕ → List Bool → List (List ℕ)
gate_rows n gates = map (λ g. replicate n (value_of g)) gates

wide_gates : (n : ℕ) (gates : List Bool) → AreWide n (gate_rows n gates)
wide_gates n gates = All-map (λ (l : List ℕ). length l ≡ n) (λ (g : Bool). replicate n (value_of g)) gates (λ at d within. length-replicate n (value_of (get_or gates at d)))

module _ (q : Asked) (states : List (List ℕ)) (gates : List Bool) (full : length states ≡ length q.records) (long : length gates ≡ length q.records)
    (wide : AreWide (length q.model.components) states) where
  -- how many modes a state has
  abbrev width : ℕ
  width = length q.model.components

  -- the states, and then the gates
  abbrev pub rows : List (List ℕ)
  rows = states ++ gate_rows width gates

  abbrev pub values_of : List ℕ
  values_of = joined rows

  all_wide : AreWide width rows
  all_wide = All-append (λ (l : List ℕ). length l ≡ width) states (gate_rows width gates) wide (wide_gates width gates)

  all_rows : length rows ≡ length q.records + length q.records
  all_rows = omega (arith, length-append states (gate_rows width gates), length-map gates (λ (g : Bool). replicate width (value_of g)), full, long)

  all_values : length values_of ≡ places q
  all_values = length-joined width rows all_wide ∙ ap (λ k. k * width) all_rows

  state_there : (at : ℕ) → at < length q.records → state_at q values_of at ≡ get_or states at []
  state_there at within = row_of_joined width rows at all_wide (omega (arith, all_rows, within)) ∙ get_or_append_left states (gate_rows width gates) [] at (omega (arith, full, within))

  mode_there : (c at : ℕ) → c < width → at < length q.records → slice_index values_of (mode_place q c at) ≡ slice_index (get_or states at []) c
  mode_there c at inside within =
      at_joined width rows at c all_wide (omega (arith, all_rows, within)) inside
      ∙ ap (λ (s : List ℕ). slice_index s c) (get_or_append_left states (gate_rows width gates) [] at (omega (arith, full, within)))

  gate_row : (at : ℕ) → at < length q.records → get_or rows (length q.records + at) [] ≡ replicate width (value_of (get_or gates at false))
  gate_row at within =
      let less : length q.records + at - length q.records ≡ at = omega arith in
      get_or-append_right states (gate_rows width gates) (length q.records) (length q.records + at) [] full (omega arith)
      ∙ ap (λ i. get_or (gate_rows width gates) i []) less
      ∙ get_or-map (λ (g : Bool). replicate width (value_of g)) gates at false [] (omega (arith, long, within))

  gate_there : (c at : ℕ) → c < width → at < length q.records → slice_index values_of (gate_place q c at) ≡ value_of (get_or gates at false)
  gate_there c at inside within =
      at_joined width rows (length q.records + at) c all_wide (omega (arith, all_rows, within)) inside
      ∙ ap (λ (s : List ℕ). slice_index s c) (gate_row at within) ∙ get_or-replicate width c (value_of (get_or gates at false)) 0 inside

  -- the first values are the states
  first_values : take (length q.records * width) values_of ≡ joined states
  first_values =
      ap (take (length q.records * width)) (joined-append states (gate_rows width gates))
      ∙ take_at (joined states) (joined (gate_rows width gates)) (length q.records * width) (length-joined width states wide ∙ ap (λ k. k * width) full)

  row_there : (at : ℕ) → at < length q.records → before q.anchor states [] at ≡ state_before q values_of at
  row_there zero within = refl
  row_there (suc at) within = sym (state_there at (omega arith))

  before_there : (c at : ℕ) → c < width → at < length q.records → before (slice_index q.anchor c) (column c states) 0 at ≡ mode_before q c values_of at
  before_there c zero inside within = refl
  before_there c (suc at) inside within = get_or-map (λ (s : List ℕ). slice_index s c) states at [] 0 (omega (arith, full, within)) ∙ sym (mode_there c at inside (omega arith))

  column_there : (c at : ℕ) → c < width → at < length q.records → get_or (column c states) at 0 ≡ slice_index values_of (mode_place q c at)
  column_there c at inside within = get_or-map (λ (s : List ℕ). slice_index s c) states at [] 0 (omega (arith, full, within)) ∙ sym (mode_there c at inside within)

  step_there : (c at own : ℕ) → c < width → at < length q.records → StepOf q.model c (slice_index q.anchor c) q.records gates (column c states) at own
      → StepBy q c at (slice_index values_of (gate_place q c at)) (mode_before q c values_of at) (slice_index values_of (mode_place q c at)) own
  step_there c at own inside within step =
      let g : Bool = get_or gates at false in
      subst (λ v. StepBy q c at v (mode_before q c values_of at) (slice_index values_of (mode_place q c at)) own) (sym (gate_there c at inside within))
      (subst (λ x. StepBy q c at (value_of g) x (slice_index values_of (mode_place q c at)) own) (before_there c at inside within)
      (subst (λ x. StepBy q c at (value_of g) (before (slice_index q.anchor c) (column c states) 0 at) x own) (column_there c at inside within)
      (step_by q c at g (before (slice_index q.anchor c) (column c states) 0 at) (get_or (column c states) at 0) own step)))

  walk_there : (c cost : ℕ) → c < width → Path q.model c (slice_index q.anchor c) q.records gates (column c states) cost → IsWalk q c values_of cost
  walk_there c cost inside path =
      let (own, total, each) = path_steps q.model c (slice_index q.anchor c) q.records gates (column c states) cost path in
      record {
        own = own;
        steps = record { component = inside; each = λ at within. step_there c at (own at) inside within (each at within) };
        total = total;
      }

  gate_real : WellFormed q.model → AreGates q.model q.anchor q.records gates states → (at : ℕ) → at < length q.records → HasGate q values_of at
  gate_real good are at within = record {
    gate = get_or gates at false;
    is_gate = subst (λ l. IsGate q.model l (record_at q at).command (get_or gates at false)) (row_there at within) (gate_at q.model q.anchor q.records gates states are at within);
    stands = λ c move own.
        subst (λ v. stands_for v (get_or gates at false) ≡ true) (sym (gate_there c at (own_component q at c (slice_index (state_before q values_of at) c) move good own) within)) (value_stands (get_or gates at false));
  }

  pub is_window : (costs : List ℕ) (cost : ℕ) → WellFormed q.model → AreGates q.model q.anchor q.records gates states → Trajectory q.model q.anchor q.records states cost
      → length costs ≡ width → ((c : ℕ) → c < width → Path q.model c (slice_index q.anchor c) q.records gates (column c states) (slice_index costs c)) → IsWindow q values_of costs
  is_window costs cost good are t wide_costs each = record {
    places = all_values;
    full = wide_costs;
    walks = λ c inside. walk_there c (slice_index costs c) inside (each c inside);
    shows = λ at within. subst (λ l. CanShow q.model l (record_at q at).seen) (sym (state_there at within)) (shown_at q.model q.anchor q.records states cost t at within).1;
    gates = gate_real good are;
  }

  -- each value is in the set that its place begins with
  mode_inside : (masks : List ℕ) (cost : ℕ) → AreFirstMasks q masks → Trajectory q.model q.anchor q.records states cost → (c at : ℕ) → c < width → at < length q.records
      → has (slice_index masks (mode_place q c at)) (slice_index values_of (mode_place q c at)) ≡ true
  mode_inside masks cost first t c at inside within =
      subst (λ v. has (slice_index masks (mode_place q c at)) v ≡ true) (sym (mode_there c at inside within))
      (first.modes at c (slice_index (get_or states at []) c) within ((shown_at q.model q.anchor q.records states cost t at within).0.modes c inside))

  gate_inside : (masks : List ℕ) → AreFirstMasks q masks → (c at : ℕ) → c < width → at < length q.records
      → has (slice_index masks (gate_place q c at)) (slice_index values_of (gate_place q c at)) ≡ true
  gate_inside masks first c at inside within =
      subst (λ v. has (slice_index masks (gate_place q c at)) v ≡ true) (sym (gate_there c at inside within))
      (first.gates at c (value_of (get_or gates at false)) within inside (value_small (get_or gates at false)))

  pub all_inside : (masks : List ℕ) (cost : ℕ) → AreFirstMasks q masks → Trajectory q.model q.anchor q.records states cost → IsInside (window_of q) every masks values_of
  all_inside masks cost first t place within is =
      let (row, c, under, inside, e) = place_cases (length q.records + length q.records) width place (omega (arith, within, length-places q)) in
      elim (row_cases row (length q.records)) [
        | inl less ↦ subst (λ p. has (slice_index masks p) (slice_index values_of p) ≡ true) (sym e) (mode_inside masks cost first t c row inside less)
        | inr more ↦
            let there : row ≡ length q.records + (row - length q.records) = omega arith in
            subst (λ p. has (slice_index masks p) (slice_index values_of p) ≡ true) (sym (e ∙ ap (λ k. k * width + c) there))
            (gate_inside masks first c (row - length q.records) inside (omega (arith, more, under)))
      ]
    where
      row_cases : (i n : ℕ) → (i < n) ⊎ (n ≤ i)
      row_cases i n = grind arith

-- a solution with these first values, of this cost, in the first sets
pub record IsSolved (q : Asked) (states : List (List ℕ)) (cost : ℕ) : Type 0 where
  pub values : List ℕ
  pub costs : List ℕ
  pub window : IsWindow q values costs
  pub total : sum costs ≡ cost
  pub first : take (length q.records * length q.model.components) values ≡ joined states
  pub inside : (masks : List ℕ) → AreFirstMasks q masks → IsInside (window_of q) every masks values

pub trajectory_is_solution : (q : Asked) (states : List (List ℕ)) (cost : ℕ) → WellFormed q.model → IsState q.model q.anchor → Trajectory q.model q.anchor q.records states cost
    → IsSolved q states cost
trajectory_is_solution q states cost good state t =
    let (gates, are) = gates_of q.model q.anchor q.records states cost t in
    let (costs, wide, total, each) = paths_of q.model q.anchor q.records gates states cost good state.full are t in
    let full = length-trajectory q.model q.anchor q.records states cost t in
    let long = length-gates q.model q.anchor q.records gates states are in
    let own = wide_states q.model q.anchor q.records states cost t in
    record {
      values = values_of q states gates full long own;
      costs = costs;
      window = is_window q states gates full long own costs cost good are t wide each;
      total = total;
      first = first_values q states gates full long own;
      inside = λ masks first. all_inside q states gates full long own masks cost first t;
    }

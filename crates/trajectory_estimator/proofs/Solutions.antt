-- The solutions of a window's question are its trajectories.
use Rattle.std.proofs.Common.{◌≡◌, ℕ, zero, suc, ◌+◌, ◌*◌, ◌<◌, ◌≤◌, Bool, true, false, List, [], length, sum, get_or, drop, slice_index, Option, refl, sym, ap, subst, ◌∙◌, arith}
use Rattle.std.proofs.lemmas.List.{get_or-drop, get_or-map, get_or-take, length-drop, length-map, length-take-le}
use Rattle.std.proofs.lemmas.Nat.{row_fits}
use Rattle.cca_base.specs.Model.{HasMode, WellFormed}
use Rattle.cca_base.specs.Relations.{numbers_below}
use Rattle.cca_base.specs.Shown.{CanShow}
use Rattle.cca_base.specs.State.{IsState}
use Rattle.cca_base.specs.declared.model.Move.{Move}
use Rattle.cca_base.proofs.PathLaws.{length-numbers}
use Rattle.trajectory_estimator.specs.Asked.{Asked}
use Rattle.trajectory_estimator.specs.Walks.{StepBy, StepCosts, gate_place, mode_before, mode_place, record_at, stands_for}
use Rattle.trajectory_estimator.specs.WalkLaws.{walk_modes}
use Rattle.trajectory_estimator.specs.Windows.{IsWindow, state_at, state_before, states_of}
use Rattle.trajectory_estimator.proofs.RealGates.{step_by_gate}
use Rattle.trajectory_estimator.proofs.RecordLaws.{StepOf, before, choose_gates, gates_from, path_from, shown_from}
use Rattle.trajectory_estimator.proofs.WindowRows.{at_made}
use Rattle.window_laws.specs.Columns.{AreGates, AreShown, IsGate, IsOwn, Path, column}
use Rattle.window_laws.specs.Trajectories.{Trajectory}
use Rattle.window_laws.proofs.Joining.{paths_trajectory}

-- ---- a solution's states

module _ (q : Asked) (values : List ℕ) where
  -- how many modes a state has
  abbrev width : ℕ
  width = length q.model.components

  pub length-states : length (states_of q values) ≡ length q.records
  length-states = length-map (numbers_below (length q.records)) (state_at q values) ∙ length-numbers (length q.records)

  pub state_row : (at : ℕ) → at < length q.records → get_or (states_of q values) at [] ≡ state_at q values at
  state_row at within = at_made (state_at q values) (length q.records) at [] within

  pub mode_at : (c at : ℕ) → c < width → slice_index (state_at q values at) c ≡ slice_index values (mode_place q c at)
  mode_at c at inside = get_or-take width (drop (at * width) values) c 0 inside ∙ get_or-drop (at * width) values c 0

  pub row_before : (at : ℕ) → at < length q.records → before q.anchor (states_of q values) [] at ≡ state_before q values at
  row_before zero within = refl
  row_before (suc at) within = state_row at (omega arith)

  column_at : (c at : ℕ) → c < width → at < length q.records → get_or (column c (states_of q values)) at 0 ≡ slice_index values (mode_place q c at)
  column_at c at inside within =
      get_or-map (λ (s : List ℕ). slice_index s c) (states_of q values) at [] 0 (omega (arith, within, length-states))
      ∙ ap (λ (s : List ℕ). slice_index s c) (state_row at within) ∙ mode_at c at inside

  column_before : (c at : ℕ) → c < width → at < length q.records → before (slice_index q.anchor c) (column c (states_of q values)) 0 at ≡ mode_before q c values at
  column_before c zero inside within = refl
  column_before c (suc at) inside within = column_at c at inside (omega arith)

  mode_there : (c at : ℕ) → c < width → slice_index (state_before q values at) c ≡ mode_before q c values at
  mode_there c zero inside = refl
  mode_there c (suc at) inside = mode_at c at inside

  -- what is known of a record's gate
  abbrev RealGate : ℕ → Bool → Type 0
  RealGate at g = IsGate q.model (state_before q values at) (record_at q at).command g
      × ((c : ℕ) (move : Move) → IsOwn q.model c (record_at q at).command (slice_index (state_before q values at) c) move → stands_for (slice_index values (gate_place q c at)) g ≡ true)

  module _ (costs : List ℕ) (h : IsWindow q values costs) (good : WellFormed q.model) (state : IsState q.model q.anchor) where
    pub state_is : (at : ℕ) → at < length q.records → IsState q.model (state_at q values at)
    state_is at within =
        let fits : at * width + width ≤ (length q.records + length q.records) * width = row_fits at width (length q.records + length q.records) width (omega arith) (omega arith) in
        let all = h.places in
        record {
          full = length-take-le width (drop (at * width) values) (omega (arith, fits, all, length-drop (at * width) values));
          modes = λ c inside.
              let walk = h.walks c inside in
              subst (HasMode q.model c) (sym (mode_at c at inside)) (walk_modes q c values walk.own good state walk.steps (suc at) (omega (arith, within)));
        }

    are_gates : (gates : List Bool) → length gates ≡ length q.records → ((at : ℕ) → at < length q.records → RealGate at (get_or gates at false))
        → AreGates q.model q.anchor q.records gates (states_of q values)
    are_gates gates long each = gates_from q.model q.anchor q.records gates (states_of q values) long length-states (λ at within.
        subst (λ l. IsGate q.model l (record_at q at).command (get_or gates at false)) (sym (row_before at within)) (each at within).0)

    are_shown : AreShown q.model q.records (states_of q values)
    are_shown = shown_from q.model q.records (states_of q values) length-states (λ at within.
        subst (λ l. IsState q.model l × CanShow q.model l (record_at q at).seen) (sym (state_row at within)) (state_is at within, h.shows at within))

    step_of : (gates : List Bool) (c at own : ℕ) → c < width → at < length q.records → RealGate at (get_or gates at false)
        → StepBy q c at (slice_index values (gate_place q c at)) (mode_before q c values at) (slice_index values (mode_place q c at)) own
        → StepOf q.model c (slice_index q.anchor c) q.records gates (column c (states_of q values)) at own
    step_of gates c at own inside within real step =
        let g : Bool = get_or gates at false in
        let k : Option ℕ = (record_at q at).command in
        let value : ℕ = slice_index values (gate_place q c at) in
        let to : ℕ = slice_index values (mode_place q c at) in
        let here = mode_there c at inside in
        let costs_so : StepCosts q.model c k g (slice_index (state_before q values at) c) to own =
        step_by_gate q c at value to own (state_before q values at) g good.commands real.0 (real.1 c) (subst (λ x. StepBy q c at value x to own) (sym here) step) in
        subst (λ x. StepCosts q.model c k g x (get_or (column c (states_of q values)) at 0) own) (sym (column_before c at inside within))
        (subst (λ x. StepCosts q.model c k g (mode_before q c values at) x own) (sym (column_at c at inside within)) (subst (λ x. StepCosts q.model c k g x to own) here costs_so))

    is_path : (gates : List Bool) → length gates ≡ length q.records → ((at : ℕ) → at < length q.records → RealGate at (get_or gates at false))
        → (c : ℕ) → c < width → Path q.model c (slice_index q.anchor c) q.records gates (column c (states_of q values)) (slice_index costs c)
    is_path gates long each c inside =
        let walk = h.walks c inside in
        subst (λ k. Path q.model c (slice_index q.anchor c) q.records gates (column c (states_of q values)) k) (sym walk.total)
        (path_from q.model c (slice_index q.anchor c) q.records gates (column c (states_of q values)) walk.own long
        (length-map (states_of q values) (λ (s : List ℕ). slice_index s c) ∙ length-states)
        (λ at within. step_of gates c at (walk.own at) inside within (each at within) (walk.steps.each at within)))

    -- a solution's states are a trajectory of its cost
    pub solution_is_trajectory : Trajectory q.model q.anchor q.records (states_of q values) (sum costs)
    solution_is_trajectory =
        let (gates, long, each) = choose_gates (length q.records) RealGate (λ at within. let g = h.gates at within in (g.gate, (g.is_gate, g.stands))) in
        paths_trajectory q.model q.anchor q.records gates (states_of q values) costs good state (are_gates gates long each) are_shown h.full (is_path gates long each)

-- The sets that each place begins with: rows of all modes, and then rows of all that a gate may be.
use Rattle.std.proofs.Common.{◌≡◌, ℕ, zero, suc, ◌+◌, ◌-◌, ◌*◌, ◌^◌, ◌<◌, true, List, [], ◌∷◌, ◌++◌, length, map, get_or, slice_index, sym, ap, subst, ◌∙◌, arith}
use Rattle.std.proofs.lemmas.Bool.{lt-ltb}
use Rattle.std.proofs.lemmas.List.{get_or-append-add, get_or-map, get_or_append_left, length-append, length-map}
use Rattle.cca_base.specs.Relations.{numbers_below}
use Rattle.cca_base.specs.Sets.{has}
use Rattle.cca_base.specs.declared.model.Component.{Component}
use Rattle.cca_base.proofs.PathLaws.{length-numbers}
use Rattle.cca_base.proofs.SetLaws.{has_ones}
use Rattle.trajectory_estimator.specs.Asked.{Asked}
use Rattle.trajectory_estimator.specs.PlaceLaws.{length-rows, row_first, value_in}
use Rattle.trajectory_estimator.specs.Walks.{gate_place, mode_place}
use Rattle.trajectory_estimator.specs.Windows.{AreFirstMasks, rows_of}

-- a row of sets of all modes
abbrev pub mode_sets : List Component → List ℕ
mode_sets components = map (λ x. 2 ^ length x.modes - 1) components

-- a row of sets of all that a gate may be
abbrev pub gate_sets : ℕ → List ℕ
gate_sets count = map (λ c. 2 ^ 3 - 1) (numbers_below count)

-- a component that has a mode is there
component_there : (components : List Component) (c mode : ℕ) → mode < get_or (map (λ (x : Component). length x.modes) components) c 0 → c < length components
component_there [] c mode h = absurd (omega arith)
component_there (x ∷ components) zero mode h = omega arith
component_there (x ∷ components) (suc c) mode h = omega (arith, component_there components c mode h)

-- and its set has the mode
set_has : (components : List Component) (c mode : ℕ) → mode < get_or (map (λ (x : Component). length x.modes) components) c 0 → has (get_or (mode_sets components) c 0) mode ≡ true
set_has [] c mode h = absurd (omega arith)
set_has (x ∷ components) zero mode h = has_ones (length x.modes) mode ∙ lt-ltb mode (length x.modes) h
set_has (x ∷ components) (suc c) mode h = set_has components c mode h

gates_have : (count c value : ℕ) → c < count → value < 3 → has (slice_index (gate_sets count) c) value ≡ true
gates_have count c value inside small =
    ap (λ set. has set value) (get_or-map (λ (k : ℕ). 2 ^ 3 - 1) (numbers_below count) c 0 0 (omega (arith, inside, length-numbers count))) ∙ has_ones 3 value ∙ lt-ltb value 3 small

length_gates : (count : ℕ) → length (gate_sets count) ≡ count
length_gates count = length-map (numbers_below count) (λ (c : ℕ). 2 ^ 3 - 1) ∙ length-numbers count

module _ (q : Asked) where
  abbrev many : ℕ
  many = length q.records

  abbrev count : ℕ
  count = length q.model.components

  abbrev modes : List ℕ
  modes = rows_of many (mode_sets q.model.components)

  abbrev gates : List ℕ
  gates = rows_of many (gate_sets count)

  length_modes : length modes ≡ many * count
  length_modes = length-rows many (mode_sets q.model.components) ∙ ap (λ k. many * k) (length-map q.model.components (λ (x : Component). 2 ^ length x.modes - 1))

  are_first : AreFirstMasks q (modes ++ gates)
  are_first = record {
    full =
        let rows : length gates ≡ many * count = length-rows many (gate_sets count) ∙ ap (λ k. many * k) (length_gates count) in
        omega (arith, length-append modes gates, length_modes, rows);
    modes = λ at c mode within has_mode.
        let inside : c < count = component_there q.model.components c mode has_mode in
        let before : mode_place q c at < length modes = omega (arith, row_first count at many c within inside, length_modes) in
        ap (λ set. has set mode) (get_or_append_left modes gates 0 (mode_place q c at) before
        ∙ value_in many count (mode_sets q.model.components) at c (length-map q.model.components (λ (x : Component). 2 ^ length x.modes - 1)) within inside)
        ∙ set_has q.model.components c mode has_mode;
    gates = λ at c value within inside small.
        let behind : gate_place q c at ≡ length modes + (at * count + c) = omega (arith, length_modes) in
        ap (λ set. has set value) (ap (λ k. get_or (modes ++ gates) k 0) behind ∙ get_or-append-add modes gates (at * count + c) 0 ∙ value_in many count (gate_sets count) at c (length_gates count) within inside)
        ∙ gates_have count c value inside small;
  }

  -- what was put there
  pub made_first : (masks : List ℕ) (records : ℕ) (components : List Component) → records ≡ many → components ≡ q.model.components
      → masks ≡ rows_of records (mode_sets components) ++ rows_of records (gate_sets (length components)) → AreFirstMasks q masks
  made_first masks records components as_many same put =
      subst (AreFirstMasks q) (sym (put ∙ ap (λ (xs : List Component). rows_of records (mode_sets xs) ++ rows_of records (gate_sets (length xs))) same
      ∙ ap (λ n. rows_of n (mode_sets q.model.components) ++ rows_of n (gate_sets count)) as_many)) are_first

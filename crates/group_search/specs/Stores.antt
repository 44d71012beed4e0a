-- What a store of cuts keeps.
use Rattle.std.specs.Prelude.{ℕ, List, [], map, slice_index_or}
use Rattle.cca_base.specs.declared.cube.Pair.{Pair}

-- the cuts in these slots, one after the other
abbrev pub cuts_in : List (List Pair) → List ℕ → List (List Pair)
cuts_in slots order = map (λ i. slice_index_or slots i []) order

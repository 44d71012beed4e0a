-- The sound part of a state, and its mendings.
use Rattle.std.specs.Prelude.{◌≡◌, ℕ, ◌<◌, ◌+◌, not, List, [], ◌∷◌, length, slice_index, filter}
use Rattle.cca_base.specs.declared.cube.Pair.{Pair}
use Rattle.cca_base.specs.PlantModel.{PlantModel}
use Rattle.cca_base.specs.Model.{is_broken, IsInChain}

-- the pairs of some modes, the first of which is that of component c
abbrev pub pairs_from : ℕ → List ℕ → List Pair
pairs_from c [] = []
pairs_from c (mode ∷ modes) = record { item = c; value = mode } ∷ pairs_from (c + 1) modes

-- each component with its mode in the state
abbrev pub pairs_of : List ℕ → List Pair
pairs_of s = pairs_from 0 s

-- the pairs of the state whose modes are not broken
abbrev pub sound_pairs : PlantModel → List ℕ → List Pair
sound_pairs m s = filter (λ p. not (is_broken m.moves p.item p.value)) (pairs_of s)

-- each component stands in a mode of the chain of its mode
pub record Mending (m : PlantModel) (s s2 : List ℕ) : Type 0 where
  pub full : length s2 ≡ length s
  pub each : (c : ℕ) → c < length s → IsInChain m.moves c (slice_index s c) (slice_index s2 c)

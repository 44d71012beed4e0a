-- What changes of components cost, where they have a cost.
use Rattle.std.specs.Prelude.{◌≡◌, ◌<◌, ℕ, List, length, slice_index, sum, Option, Some, None}
use Rattle.cca_base.specs.PlantModel.{PlantModel}
use Rattle.cca_base.specs.Successors.{ChangeCosts}

-- the costs are those of the first components' changes
pub record AreParts (m : PlantModel) (s nominal s2 : List ℕ) (count : ℕ) (parts : List ℕ) : Type 0 where
  pub full : length parts ≡ count
  pub each : (c : ℕ) → c < count → ChangeCosts m c (slice_index s c) (slice_index nominal c) (slice_index s2 c) (slice_index parts c)

-- the sum of what the components' changes cost, if each has a cost
abbrev pub IsTotal : PlantModel → List ℕ → List ℕ → List ℕ → Option ℕ → Type 0
IsTotal m s nominal s2 None = (parts : List ℕ) → AreParts m s nominal s2 (length s2) parts → ⊥
IsTotal m s nominal s2 (Some cost) = (parts : List ℕ) × AreParts m s nominal s2 (length s2) parts × (cost ≡ sum parts)

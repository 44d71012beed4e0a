-- Components and pairs in order, effects before their causes.
use Rattle.std.specs.Prelude.{◌≡◌, ◌≢◌, ℕ, ◌⊎◌, List, [], ◌∷◌, ◌++◌, length, slice_get, Some}
use Rattle.std.specs.List.Sorted.{IsPermutation}
use Rattle.cca_base.specs.declared.cube.Pair.{Pair}
use Rattle.cca_base.specs.PlantModel.{PlantModel}
use Rattle.cca_base.specs.Implicants.{Needs}
use Rattle.cca_base.specs.Relations.{IsFreeBy, TakesEffectsFirstBy, IsEffectsFirstBy}
pub use Rattle.cca_base.specs.Relations.{numbers_below}
use Rattle.cca_base.specs.State.{Extends}

-- no remaining component needs c
abbrev pub IsFree : PlantModel → List ℕ → ℕ → Type 0
IsFree m = IsFreeBy (Needs m)

-- repeatedly the least remaining component that no remaining component needs
abbrev pub TakesEffectsFirst : PlantModel → List ℕ → List ℕ → Type 0
TakesEffectsFirst m = TakesEffectsFirstBy (Needs m)

-- all components, effects before their causes
abbrev pub IsEffectsFirst : PlantModel → List ℕ → Type 0
IsEffectsFirst m = IsEffectsFirstBy (Needs m) (length m.components)

-- the pairs' components come in this order, each at most once
abbrev pub AreInOrder : List ℕ → List Pair → Type 0
AreInOrder [] pairs = pairs ≡ []
AreInOrder (c ∷ order) pairs =
    AreInOrder order pairs ⊎ ((mode : ℕ) × (others : List Pair) × (pairs ≡ record { item = c; value = mode } ∷ others) × AreInOrder order others)

-- the same pairs, in this order of components
pub record IsSorted (order : List ℕ) (pairs sorted : List Pair) : Type 0 where
  pub same : IsPermutation pairs sorted
  pub in_order : AreInOrder order sorted

-- the first of the pairs that the state does not hold
pub record IsFirstMissing (s : List ℕ) (pairs : List Pair) (p : Pair) : Type 0 where
  pub before : List Pair
  pub after : List Pair
  pub split : pairs ≡ before ++ p ∷ after
  pub held : Extends s before
  pub missing : slice_get s p.item ≢ Some p.value

-- the next pair of a cube: the first in this order of components that the state does not hold
pub record IsNextOf (order s : List ℕ) (cube : List Pair) (p : Pair) : Type 0 where
  pub sorted : List Pair
  pub is_sorted : IsSorted order cube sorted
  pub first : IsFirstMissing s sorted p

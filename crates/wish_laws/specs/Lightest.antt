-- Where components may stand, and the lightest state that extends a cube.
use Rattle.std.specs.Prelude.{◌≡◌, ◌⊎◌, ◌<◌, ◌≤◌, ℕ, true, List, length, [], slice_index, slice_index_or, Contains}
use Rattle.cca_base.specs.declared.cube.Pair.{Pair}
use Rattle.cca_base.specs.PlantModel.{PlantModel}
use Rattle.cca_base.specs.State.{IsState, Extends}
use Rattle.cca_base.specs.Estimates.{IsEarlier}
use Rattle.reach_laws.specs.Classes.{Test}
use Rattle.wish_laws.specs.Settled.{weight_of}

-- the component may stand in the mode: it is in the class, or the class is empty and the component stays
abbrev pub MayStand : Test → List ℕ → ℕ → ℕ → Type 0
MayStand member s c mode = (member c mode ≡ true) ⊎ ((mode ≡ slice_index s c) × ((x : ℕ) → member c x ≡ true → ⊥))

-- each component stands where it may
pub record StandsWhereItMay (m : PlantModel) (member : Test) (s t : List ℕ) : Type 0 where
  pub state : IsState m t
  pub each : (c : ℕ) → c < length m.components → MayStand member s c (slice_index t c)

-- the first weighs less, or as much while it is the same or earlier
abbrev pub IsLighter : List (List ℕ) → List ℕ → List ℕ → Type 0
IsLighter weights t u = (weight_of weights t < weight_of weights u) ⊎ ((weight_of weights t ≡ weight_of weights u) × ((t ≡ u) ⊎ IsEarlier t u))

-- the mode weighs less, or as much while it is no greater
abbrev pub IsLighterMode : List ℕ → ℕ → ℕ → Type 0
IsLighterMode row x y = (slice_index row x < slice_index row y) ⊎ ((slice_index row x ≡ slice_index row y) × (x ≤ y))

-- one of the cube's pairs has a mode in which its component may not stand
abbrev pub IsBarred : Test → List ℕ → List Pair → Type 0
IsBarred member s cube = (p : Pair) × Contains cube p × (MayStand member s p.item p.value → ⊥)

-- one of the cube's pairs is of the component
abbrev pub IsNamed : List Pair → ℕ → Type 0
IsNamed cube c = (mode : ℕ) × Contains cube (record { item = c; value = mode })

-- the state extends the cube, and each other component has the lightest mode in which it may stand
pub record IsLightestOf (m : PlantModel) (member : Test) (weights : List (List ℕ)) (s : List ℕ) (cube : List Pair) (t : List ℕ) : Type 0 where
  pub stands : StandsWhereItMay m member s t
  pub extends : Extends t cube
  pub others : (c : ℕ) → c < length m.components → IsNamed cube c
      ⊎ ((mode : ℕ) → MayStand member s c mode → IsLighterMode (slice_index_or weights c []) (slice_index t c) mode)

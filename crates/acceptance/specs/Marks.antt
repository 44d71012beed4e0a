-- Which components occur in cubes.
use Rattle.std.specs.Prelude.{◌≡◌, ℕ, ◌⊎◌, ◌↔◌, Bool, List, length, map, Contains}
use Rattle.cca_base.specs.declared.cube.Pair.{Pair}
use Rattle.cca_base.specs.PlantModel.{PlantModel}
use Rattle.cca_base.specs.Implicants.{Needs}
use Rattle.cca_base.specs.Flags.{IsSet}

-- the pairs' components
abbrev pub components_of : List Pair → List ℕ
components_of pairs = map (λ p. p.item) pairs

-- a pair of one of the cubes is of the component
abbrev pub OccursIn : List (List Pair) → ℕ → Type 0
OccursIn cubes u = (cube : List Pair) × Contains cubes cube × Contains (components_of cube) u

-- the marks of exactly those of the kind are set, besides those that were
pub record AddsMarks (P : ℕ → Type 0) (old new : List Bool) : Type 0 where
  pub full : length new ≡ length old
  pub each : (u : ℕ) → IsSet new u ↔ (IsSet old u ⊎ P u)

-- a mark for each component, and exactly those are set that c needs
pub record AreNeedsMarked (m : PlantModel) (c : ℕ) (marks : List Bool) : Type 0 where
  pub full : length marks ≡ length m.components
  pub each : (u : ℕ) → IsSet marks u ↔ Needs m c u

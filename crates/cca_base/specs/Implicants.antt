-- The minimal conditions of a move, and what a component needs.
use Rattle.std.specs.Prelude.{◌≡◌, ℕ, List, ◌∷◌, All, Contains}
use Rattle.cca_base.specs.declared.cube.Pair.{Pair}
use Rattle.cca_base.specs.declared.model.Move.{Move}
use Rattle.cca_base.specs.PlantModel.{PlantModel}
use Rattle.cca_base.specs.Model.{HasMode}
use Rattle.cca_base.specs.Cube.{Lacks, IsPart, IsRising}
use Rattle.cca_base.specs.State.{Follows}
use Rattle.cca_base.specs.Relations.{PathBy, AncestorBy, IsAcyclicBy}

-- the move's component with the move's source
abbrev pub source_pair : Move → Pair
source_pair move = record { item = move.component; value = move.source }

-- the move's guard follows from its source together with the pairs
abbrev pub Suffices : PlantModel → Move → List Pair → Type 0
Suffices m move pairs = Follows m (source_pair move ∷ pairs) move.guard

-- a cube without the move's component that suffices, while no proper part of it does; its pairs are of the model, and rise
pub record PrimeImplicant (m : PlantModel) (move : Move) (cube : List Pair) : Type 0 where
  pub rising : IsRising cube
  pub modes : All (λ p. HasMode m p.item p.value) cube
  pub others : Lacks move.component cube
  pub suffices : Suffices m move cube
  pub minimal : (part : List Pair) → IsPart part cube → Suffices m move part → IsPart cube part

-- component u occurs in a prime implicant of a move of component c
pub record Needs (m : PlantModel) (c u : ℕ) : Type 0 where
  pub move : Move
  pub of_model : Contains m.moves move
  pub own : move.component ≡ c
  pub cube : List Pair
  pub prime : PrimeImplicant m move cube
  pub mode : ℕ
  pub occurs : Contains cube (record { item = u; value = mode })

-- component c needs the first of those between, each of them needs the next, and the last needs u
abbrev pub Path : PlantModel → ℕ → List ℕ → ℕ → Type 0
Path m = PathBy (Needs m)

-- component u is reached from c by one or more needs
abbrev pub Ancestor : PlantModel → ℕ → ℕ → Type 0
Ancestor m = AncestorBy (Needs m)

-- no component is its own ancestor
abbrev pub IsAcyclic : PlantModel → Type 0
IsAcyclic m = IsAcyclicBy (Needs m)

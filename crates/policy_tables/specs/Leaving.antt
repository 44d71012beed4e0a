-- The open moves that leave a mode, and their prime implicants.
use Rattle.std.specs.Prelude.{◌≡◌, ◌<◌, ℕ, List, [], length, slice_get, slice_index, slice_index_or, Some, All, take}
use Rattle.cca_base.specs.declared.cube.Pair.{Pair}
use Rattle.cca_base.specs.declared.model.Move.{Move}
use Rattle.cca_base.specs.Accepted.{CompiledModel}
use Rattle.cca_base.specs.PlantModel.{PlantModel}
use Rattle.cca_base.specs.Cube.{IsBeforeCube}
use Rattle.cca_base.specs.Implicants.{PrimeImplicant}
use Rattle.cca_base.specs.Orders.{IsSorted}
use Rattle.cca_base.specs.Relations.{AreExactly}
use Rattle.policy_tables.specs.Codes.{way_at}
use Rattle.policy_tables.specs.declared.leaving.Leaving.{Leaving}
use Rattle.reach_laws.specs.Classes.{Test, AreInside, IsOpen}

-- the number is that of a move that leaves the mode
abbrev pub LeavesMode : PlantModel → ℕ → ℕ → Type 0
LeavesMode m from i = (move : Move) × (slice_get m.moves i ≡ Some move) × (move.source ≡ from)

-- the number is that of an open move of the component that leaves the mode
pub record IsLeaving (m : PlantModel) (member : Test) (c from i : ℕ) : Type 0 where
  pub move : Move
  pub move_at : slice_get m.moves i ≡ Some move
  pub own : move.component ≡ c
  pub source : move.source ≡ from
  pub open_move : IsOpen m member move

-- exactly the numbers of the component's open moves that leave the mode, rising
abbrev pub AreLeaving : PlantModel → Test → ℕ → ℕ → List ℕ → Type 0
AreLeaving m member c from = AreExactly (IsLeaving m member c from)

-- the first of the cubes that is inside the classes
pub record IsFirstInside (member : Test) (cubes : List (List Pair)) (i : ℕ) : Type 0 where
  pub cube : List Pair
  pub at : slice_get cubes i ≡ Some cube
  pub inside : AreInside member cube
  pub first : All (λ other. AreInside member other → ⊥) (take i cubes)

-- the number is that of an open move
abbrev pub IsOpenAt : PlantModel → Test → ℕ → Type 0
IsOpenAt m member i = (move : Move) × (slice_get m.moves i ≡ Some move) × IsOpen m member move

-- the move's first prime implicant, in cube order, inside the classes, with its pairs effects first
pub record IsCubeOf (b : CompiledModel) (member : Test) (i : ℕ) (cube : List Pair) : Type 0 where
  pub move : Move
  pub move_at : slice_get b.model.moves i ≡ Some move
  pub plain : List Pair
  pub prime : PrimeImplicant b.model move plain
  pub inside : AreInside member plain
  pub first_cube : (other : List Pair) → PrimeImplicant b.model move other → AreInside member other → IsBeforeCube other plain → ⊥
  pub sorted : IsSorted b.order plain cube

-- the place is that of this prime implicant of the move
pub record IsWayOf (b : CompiledModel) (ways : List (List (List Pair))) (member : Test) (i way : ℕ) : Type 0 where
  pub move_within : i < length ways
  pub within : way < length (slice_index_or ways i [])
  pub cube : IsCubeOf b member i (way_at ways i way)

-- the places of the first moves' prime implicants
pub record AreWaysTo (b : CompiledModel) (ways : List (List (List Pair))) (member : Test) (numbers chosen : List ℕ) (n : ℕ) : Type 0 where
  pub full : length chosen ≡ n
  pub each : (k : ℕ) → k < n → IsWayOf b ways member (slice_index numbers k) (slice_index chosen k)

-- the open moves that leave the mode, each with the prime implicant that it waits for
pub record IsLeavingOf (b : CompiledModel) (sorted : List (List (List Pair))) (member : Test) (l : Leaving) : Type 0 where
  pub numbers : AreLeaving b.model member l.component l.mode l.numbers.items
  pub ways : AreWaysTo b sorted member l.numbers.items l.ways.items (length l.numbers.items)

-- Which modes the open moves of a component lead to, in how many moves.
use Rattle.std.specs.Prelude.{◌≡◌, ◌⊎◌, ◌↔◌, ◌<◌, ◌≤◌, ◌-◌, ℕ, zero, suc, true, List, length, slice_index, slice_get, Some, Contains}
use Rattle.cca_base.specs.declared.cube.Pair.{Pair}
use Rattle.cca_base.specs.declared.model.Move.{Move}
use Rattle.cca_base.specs.PlantModel.{PlantModel}
use Rattle.cca_base.specs.Model.{HasMode, mode_counts}
use Rattle.cca_base.specs.Relations.{AreExactly}
use Rattle.reach_laws.specs.Classes.{Test, AreInside, IsOpen, OpenMove, Joined}
use Rattle.reversibility.specs.ClassParts.{in_row}

-- ---- open moves

-- some cube of the list lies in the classes
pub record SomeInside (member : Test) (cubes : List (List Pair)) : Type 0 where
  pub cube : List Pair
  pub one : Contains cubes cube
  pub inside : AreInside member cube

-- the number is that of an open move of the component
pub record IsOpenNumber (m : PlantModel) (member : Test) (c i : ℕ) : Type 0 where
  pub move : Move
  pub move_at : slice_get m.moves i ≡ Some move
  pub own : move.component ≡ c
  pub open_move : IsOpen m member move

-- exactly the numbers of the component's open moves, rising
abbrev pub AreOpenMoves : PlantModel → Test → ℕ → List ℕ → Type 0
AreOpenMoves m member c = AreExactly (IsOpenNumber m member c)

-- the number stands at one of the first places
abbrev pub IsAmong : List ℕ → ℕ → ℕ → Type 0
IsAmong xs n i = (place : ℕ) × (place < n) × (slice_index xs place ≡ i)

-- each of the numbers names a move between modes below n
abbrev pub AreMovesWithin : PlantModel → ℕ → List ℕ → Type 0
AreMovesWithin m n numbers = (place : ℕ) → place < length numbers
    → (move : Move) × (slice_get m.moves (slice_index numbers place) ≡ Some move) × (move.source < n) × (move.target < n)

-- ---- edges, and what so many of them lead to

-- which numbers edges lead to
abbrev pub Edges : Type 1
Edges = ℕ → ℕ → Type 0

-- one of the first numbers is that of a move from a to x
pub record MoveLeads (m : PlantModel) (numbers : List ℕ) (n a x : ℕ) : Type 0 where
  pub place : ℕ
  pub below : place < n
  pub move : Move
  pub move_at : slice_get m.moves (slice_index numbers place) ≡ Some move
  pub source : move.source ≡ a
  pub target : move.target ≡ x

-- n edges lead from the one to the other
abbrev pub EdgeWalk : Edges → ℕ → ℕ → ℕ → Type 0
EdgeWalk edge a b zero = a ≡ b
EdgeWalk edge a b (suc n) = (x : ℕ) × edge a x × EdgeWalk edge x b n

-- so many edges at most lead from the one to the other
pub record IsNear (edge : Edges) (k a b : ℕ) : Type 0 where
  pub count : ℕ
  pub few : count ≤ k
  pub walk : EdgeWalk edge a b count

-- for each number below n all that so many edges at most lead to
pub record IsLevel (edge : Edges) (n k : ℕ) (level : List ℕ) : Type 0 where
  pub full : length level ≡ n
  pub each : (a b : ℕ) → a < n → (in_row level a b ≡ true) ↔ IsNear edge k a b

-- the levels from 0 on
abbrev pub AreLevels : Edges → ℕ → List (List ℕ) → Type 0
AreLevels edge n levels = (k : ℕ) (level : List ℕ) → slice_get levels k ≡ Some level → IsLevel edge n k level

-- one edge more: what was near, and what an edge leads near to
pub record IsExpanded (edge : Edges) (level next : List ℕ) : Type 0 where
  pub full : length next ≡ length level
  pub each : (a b : ℕ) → a < length level → (in_row next a b ≡ true) ↔ ((in_row level a b ≡ true) ⊎ ((x : ℕ) × edge a x × (in_row level x b ≡ true)))

-- there is a level for each number of edges up to n, or one edge more than at the last level leads to nothing more
abbrev pub AreEnough : Edges → ℕ → List (List ℕ) → Type 0
AreEnough edge n levels = (length levels ≡ suc n) ⊎ ((level : List ℕ) → slice_get levels (length levels - 1) ≡ Some level → IsExpanded edge level level)

-- each of the first numbers leads to itself alone
pub record IsSelf (n : ℕ) (level : List ℕ) : Type 0 where
  pub full : length level ≡ n
  pub each : (a b : ℕ) → a < n → (in_row level a b ≡ true) ↔ (a ≡ b)

-- ---- a component

-- the levels of a component's open moves from 0 on, of which the last has all that open moves lead to
pub record AreLevelsOf (m : PlantModel) (member : Test) (c : ℕ) (levels : List (List ℕ)) : Type 0 where
  pub some : 0 < length levels
  pub few : length levels ≤ suc (slice_index (mode_counts m) c)
  pub each : AreLevels (OpenMove m member c) (slice_index (mode_counts m) c) levels
  pub last : (level : List ℕ) → slice_get levels (length levels - 1) ≡ Some level → (a b : ℕ) → HasMode m c a → Joined m member c a b → in_row level a b ≡ true

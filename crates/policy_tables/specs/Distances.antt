-- How far it is from mode to mode, and which moves come nearer.
use Rattle.std.specs.Prelude.{◌≡◌, ◌<◌, ◌≤◌, ℕ, true, List, length, slice_get, slice_index, Some}
use Rattle.cca_base.specs.declared.model.Move.{Move}
use Rattle.cca_base.specs.PlantModel.{PlantModel}
use Rattle.reach_laws.specs.Classes.{Test, IsOpen}
use Rattle.reversibility.specs.ClassParts.{in_row}

-- the first level at which the one mode leads to the other
pub record IsFirstLevel (levels : List (List ℕ)) (from to k : ℕ) : Type 0 where
  pub level : List ℕ
  pub at : slice_get levels k ≡ Some level
  pub leads : in_row level from to ≡ true
  pub first : (j : ℕ) (other : List ℕ) → j < k → slice_get levels j ≡ Some other → in_row other from to ≡ true → ⊥

-- no level has it
abbrev pub IsNoLevel : List (List ℕ) → ℕ → ℕ → Type 0
IsNoLevel levels from to = (k : ℕ) (level : List ℕ) → slice_get levels k ≡ Some level → in_row level from to ≡ true → ⊥

-- where a level leads from the one mode to the other, all later levels do
abbrev pub AreRising : List (List ℕ) → ℕ → ℕ → Type 0
AreRising levels from to = (j k : ℕ) (level later : List ℕ) → j ≤ k → slice_get levels j ≡ Some level → slice_get levels k ≡ Some later
    → in_row level from to ≡ true → in_row later from to ≡ true

-- from the target of the move at the place the level leads to the mode
abbrev pub NearAt : PlantModel → List ℕ → List ℕ → ℕ → ℕ → Type 0
NearAt m numbers level to k = (move : Move) × (slice_get m.moves (slice_index numbers k) ≡ Some move) × (in_row level move.target to ≡ true)

-- the first such place
pub record IsFirstPlace (m : PlantModel) (numbers level : List ℕ) (to k : ℕ) : Type 0 where
  pub within : k < length numbers
  pub near : NearAt m numbers level to k
  pub first : (j : ℕ) → j < k → NearAt m numbers level to j → ⊥

-- the move is an open one of c from the one mode, and the level leads from its target to the other
pub record LeadsNear (m : PlantModel) (member : Test) (level : List ℕ) (c from to i : ℕ) : Type 0 where
  pub move : Move
  pub move_at : slice_get m.moves i ≡ Some move
  pub own : move.component ≡ c
  pub source : move.source ≡ from
  pub near : in_row level move.target to ≡ true
  pub open_move : IsOpen m member move

-- the first such move
pub record IsFirstNear (m : PlantModel) (member : Test) (level : List ℕ) (c from to i : ℕ) : Type 0 where
  pub leads : LeadsNear m member level c from to i
  pub first : (j : ℕ) → j < i → LeadsNear m member level c from to j → ⊥

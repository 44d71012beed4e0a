-- What is known of one component's open moves.
use Rattle.std.specs.Prelude.{◌≡◌, ◌+◌, ◌*◌, ℕ, List}
use Rattle.cca_base.specs.declared.limits.TheConstants.{MAX_CHOICES, MAX_MOVES}
use Rattle.cca_base.specs.PlantModel.{PlantModel}
use Rattle.reach_laws.specs.Classes.{Test}
use Rattle.reversibility.specs.Levels.{AreOpenMoves, AreLevelsOf}

-- the numbers of open moves, and for each number of them and each mode the set of modes that they lead to
pub record PathParts : Type 0 where
  pub numbers : List ℕ
  pub levels : List (List ℕ)

-- the numbers of the component's open moves, and what so many of them lead to
pub record ArePaths (m : PlantModel) (member : Test) (c : ℕ) (paths : PathParts) : Type 0 where
  pub open_moves : AreOpenMoves m member c paths.numbers
  pub levels : AreLevelsOf m member c paths.levels

-- there is room for the paths of any component: for the numbers of all moves, and for as many levels of sets as a mode may be moves away
pub record HasRoom (of_numbers of_sets of_levels of_next : ℕ) : Type 0 where
  pub numbers : of_numbers ≡ MAX_MOVES
  pub sets : of_sets ≡ (MAX_CHOICES + 1) * MAX_CHOICES
  pub levels : of_levels ≡ MAX_CHOICES + 1
  pub next : of_next ≡ MAX_CHOICES

-- Guards and wishes that are true where two formulas are.
use Rattle.std.specs.Prelude.{◌≡◌, ◌&&◌, ◌++◌, ◌∷◌, [], ℕ, List}
use Rattle.cca_base.specs.declared.cube.Pair.{Pair}
use Rattle.cca_base.specs.declared.formula.Formula.{Formula, roll-Formula}
use Rattle.cca_base.specs.declared.formula.Formula.TheOpen.{Formula-F}
use Rattle.cca_base.specs.declared.model.Move.{Move}
use Rattle.cca_base.specs.PlantModel.{PlantModel}
use Rattle.cca_base.specs.Formula.{truth}
use Rattle.cca_base.specs.Accepted.{AreWays}
use Rattle.guard_compiler.specs.Wishes.{AreImplicants}

-- the move with another guard
abbrev pub with_guard : Move → Formula → Move
with_guard move guard = record move { guard = guard }

-- each part is true
abbrev pub all_of : List Formula → Formula
all_of parts = roll-Formula (Formula-F.All parts)

-- the third formula is true exactly where the first two are
abbrev pub IsConjunction : Formula → Formula → Formula → Type 0
IsConjunction first second both = (s w : List ℕ) → truth s w both ≡ (truth s w first && truth s w second)

-- of a move that has the first cubes as its prime implicants with one guard, and the second with another: those that it has where both have to be true
abbrev pub AreWaysOfBoth : List (List Pair) → List (List Pair) → List (List Pair) → Type 0
AreWaysOfBoth firsts seconds cubes = (m : PlantModel) (move : Move) (first second both : Formula) → IsConjunction first second both
    → AreWays m (with_guard move first) firsts → AreWays m (with_guard move second) seconds → AreWays m (with_guard move both) cubes

-- the cubes before and after one more part: if they were the prime implicants of some parts, they are those of all
abbrev pub AddsPart : PlantModel → Move → Formula → List (List Pair) → List (List Pair) → Type 0
AddsPart m move part old new = (parts : List Formula) → AreWays m (with_guard move (all_of parts)) old → AreWays m (with_guard move (all_of (parts ++ part ∷ []))) new

-- the same of a formula's implicants
abbrev pub AddsWish : PlantModel → Formula → List (List Pair) → List (List Pair) → Type 0
AddsWish m part old new = (parts : List Formula) → AreImplicants m (all_of parts) old → AreImplicants m (all_of (parts ++ part ∷ [])) new

-- Conditions of moves: what follows is decided, and what suffices has a minimal part.
use Rattle.std.specs.Prelude.{List, All}
use Rattle.cca_base.specs.declared.cube.Pair.{Pair}
use Rattle.cca_base.specs.declared.formula.Formula.{Formula}
use Rattle.cca_base.specs.declared.model.Move.{Move}
use Rattle.cca_base.specs.PlantModel.{PlantModel}
use Rattle.cca_base.specs.Cube.{Lacks, IsPart, IsRising}
use Rattle.cca_base.specs.Implicants.{Suffices, PrimeImplicant}
use Rattle.cca_base.specs.Model.{HasMode}
use Rattle.cca_base.specs.State.{Follows}

-- whether a formula follows from some pairs can be decided
abbrev pub FollowsIsDecided : Type 0
FollowsIsDecided = (m : PlantModel) (pairs : List Pair) (f : Formula) → Dec (Follows m pairs f)

-- rising pairs of other components, of the model, from which with the source the guard follows
pub record IsSufficient (m : PlantModel) (move : Move) (cube : List Pair) : Type 0 where
  pub rising : IsRising cube
  pub modes : All (λ p. HasMode m p.item p.value) cube
  pub others : Lacks move.component cube
  pub suffices : Suffices m move cube

-- such pairs have a part that is a prime implicant
abbrev pub SufficientCubesHavePrimes : Type 0
SufficientCubesHavePrimes = (m : PlantModel) (move : Move) (cube : List Pair) → IsSufficient m move cube
    → (prime : List Pair) × PrimeImplicant m move prime × IsPart prime cube

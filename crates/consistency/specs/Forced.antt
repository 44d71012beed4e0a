-- Which values the worlds of a state agree on.
use Rattle.std.specs.Prelude.{ℕ, ◌↔◌, IsTrue, List, All, Contains}
use Rattle.cca_base.specs.declared.cube.Pair.{Pair}
use Rattle.cca_base.specs.PlantModel.{PlantModel}
use Rattle.cca_base.specs.Cube.{IsRising}
use Rattle.cca_base.specs.Sets.{has}
use Rattle.cca_base.specs.State.{HasValue}
use Rattle.cca_base.specs.Trace.{HasOneValue}

-- exactly the pairs of these variables that every world of the state has, rising
pub record AreForced (m : PlantModel) (s : List ℕ) (vars : ℕ) (pairs : List Pair) : Type 0 where
  pub rising : IsRising pairs
  pub each : (p : Pair) → Contains pairs p ↔ (IsTrue (has vars p.item) × HasOneValue m s p)

-- these pairs, which are values of the model
pub record AreShown (m : PlantModel) (s : List ℕ) (vars : ℕ) (pairs : List Pair) : Type 0 where
  pub forced : AreForced m s vars pairs
  pub values : All (λ p. HasValue m p.item p.value) pairs

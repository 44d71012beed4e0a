-- The parts of what a world is, and what a tick sees, as a list.
use Rattle.std.specs.Prelude.{◌≡◌, ◌<◌, ◌↔◌, ℕ, false, IsTrue, List, length, slice_index, All, Contains}
use Rattle.cca_base.specs.declared.cube.Pair.{Pair}
use Rattle.cca_base.specs.PlantModel.{PlantModel}
use Rattle.cca_base.specs.Formula.{truth}
use Rattle.cca_base.specs.State.{HasValue}
use Rattle.cca_base.specs.Trace.{ExecutiveState, Observed}
use Rattle.plan_checker.specs.Reasons.{Sees}

-- a value for each variable
pub record AreValues (m : PlantModel) (w : List ℕ) : Type 0 where
  pub full : length w ≡ length m.variables
  pub values : (v : ℕ) → v < length m.variables → HasValue m v (slice_index w v)

-- every rule is true with the values in the state
abbrev pub KeepsRules : PlantModel → List ℕ → List ℕ → Type 0
KeepsRules m s w = All (λ rule. IsTrue (truth s w rule)) m.rules

-- exactly the pairs that the tick sees; while it isn't holding, they are what it observes
pub record AreSeen (m : PlantModel) (x : ExecutiveState) (seen : List Pair) : Type 0 where
  pub each : (p : Pair) → Contains seen p ↔ Sees m x p
  pub observed : x.holding ≡ false → Observed m x seen

-- there is such a list
abbrev pub SomeAreSeen : PlantModel → ExecutiveState → Type 0
SomeAreSeen m x = (seen : List Pair) × AreSeen m x seen

-- What a checker keeps.
use Rattle.std.specs.Prelude.{◌≡◌, ◌<◌, ℕ, false, IsTrue, length, All, IfSome}
use Rattle.cca_base.specs.PlantModel.{PlantModel}
use Rattle.cca_base.specs.Cube.{IsRising}
use Rattle.cca_base.specs.Model.{HasMode}
use Rattle.cca_base.specs.Sets.{has}
use Rattle.cca_base.specs.State.{IsState, HasValue}
use Rattle.cca_base.specs.Trace.{ExecutiveState}

-- what is pending rises, and is not mirrored
pub record KeepsPending (x : ExecutiveState) : Type 0 where
  pub rising : IsRising x.pending
  pub unmirrored : All (λ p. has x.mirrored p.item ≡ false) x.pending

-- the estimate and the plant are states of the model, and all numbers are those of its components, modes, variables, values and commands
pub record FitsModel (m : PlantModel) (x : ExecutiveState) : Type 0 where
  pub estimate : IsState m x.estimate
  pub plant : IsState m x.plant
  pub command : IfSome x.command (λ k. k < length m.commands)
  pub pending : All (λ p. HasValue m p.item p.value) x.pending
  pub mirrored : (v : ℕ) → IsTrue (has x.mirrored v) → v < length m.variables
  pub goal : IfSome x.goal (All (λ p. HasMode m p.item p.value))

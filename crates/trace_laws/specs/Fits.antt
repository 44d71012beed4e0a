-- What an executive keeps fits its model.
use Rattle.std.specs.Prelude.{◌≡◌, ℕ, false, IsTrue, List, slice_get, Some, None, IfSome, All}
use Rattle.cca_base.specs.declared.cube.Pair.{Pair}
use Rattle.cca_base.specs.declared.model.Variable.{Variable}
use Rattle.cca_base.specs.PlantModel.{PlantModel}
use Rattle.cca_base.specs.Accepted.{CompiledModel}
use Rattle.cca_base.specs.Model.{HasMode, is_broken}
use Rattle.cca_base.specs.Sets.{has}
use Rattle.cca_base.specs.Cube.{IsRising}
use Rattle.cca_base.specs.Orders.{AreInOrder}
use Rattle.cca_base.specs.State.{IsState, HasValue}
use Rattle.cca_base.specs.Trace.{ExecutiveState}

-- a goal as it is kept: in order, and of each component a mode that is not broken
pub record IsKeptGoal (b : CompiledModel) (goal : List Pair) : Type 0 where
  pub in_order : AreInOrder b.order goal
  pub modes : All (λ p. HasMode b.model p.item p.value) goal
  pub sound : All (λ p. is_broken b.model.moves p.item p.value ≡ false) goal

-- a variable of the model that is sensed
abbrev pub IsSensed : PlantModel → ℕ → Type 0
IsSensed m v = (variable : Variable) × (slice_get m.variables v ≡ Some variable) × IsTrue variable.sensed

-- a value of a sensed variable that is not mirrored
pub record MayBePending (m : PlantModel) (mirrored : ℕ) (p : Pair) : Type 0 where
  pub value : HasValue m p.item p.value
  pub sensed : IsSensed m p.item
  pub unmirrored : has mirrored p.item ≡ false

-- the estimate and the plant are states, and what is pending, mirrored and wanted is of the model; while holding there is no command
pub record Fits (b : CompiledModel) (x : ExecutiveState) : Type 0 where
  pub estimate : IsState b.model x.estimate
  pub plant : IsState b.model x.plant
  pub rising : IsRising x.pending
  pub pending : All (MayBePending b.model x.mirrored) x.pending
  pub mirrors : (v : ℕ) → IsTrue (has x.mirrored v) → IsSensed b.model v
  pub goal : IfSome x.goal (IsKeptGoal b)
  pub silent : IsTrue x.holding → x.command ≡ None

-- What does not depend on the version of a model.
use Rattle.std.specs.Prelude.{◌≡◌, ◌↔◌, ℕ, List, Option}
use Rattle.cca_base.specs.declared.cube.Pair.{Pair}
use Rattle.cca_base.specs.declared.model.Move.{Move}
use Rattle.cca_base.specs.PlantModel.{PlantModel}
use Rattle.cca_base.specs.State.{IsState, IsWorld}
use Rattle.cca_base.specs.Implicants.{PrimeImplicant}
use Rattle.cca_base.specs.Steps.{Run, AllowedPlan, Reach}
use Rattle.cca_base.specs.Orders.{IsEffectsFirst}
use Rattle.cca_base.specs.Estimates.{Estimate}

-- the same model in another version
abbrev pub at_version : ℕ → PlantModel → PlantModel
at_version v m = record m { version = v }

-- another version is another version
abbrev pub VersionsDiffer : Type 0
VersionsDiffer = (m : PlantModel) (v : ℕ) → (at_version v m).version ≡ v

-- each holds of a model as of the same model in another version
pub record VersionsAlike : Type 0 where
  pub states : (m : PlantModel) (v : ℕ) (s : List ℕ) → IsState m s ↔ IsState (at_version v m) s
  pub worlds : (m : PlantModel) (v : ℕ) (s w : List ℕ) → IsWorld m s w ↔ IsWorld (at_version v m) s w
  pub implicants : (m : PlantModel) (v : ℕ) (move : Move) (cube : List Pair) → PrimeImplicant m move cube ↔ PrimeImplicant (at_version v m) move cube
  pub orders : (m : PlantModel) (v : ℕ) (order : List ℕ) → IsEffectsFirst m order ↔ IsEffectsFirst (at_version v m) order
  pub runs : (m : PlantModel) (v : ℕ) (s t ks : List ℕ) → Run m s ks t ↔ Run (at_version v m) s ks t
  pub allowed : (m : PlantModel) (v : ℕ) (s t ks : List ℕ) → AllowedPlan m s ks t ↔ AllowedPlan (at_version v m) s ks t
  pub reach : (m : PlantModel) (v : ℕ) (s : List ℕ) (c mode : ℕ) → Reach m s c mode ↔ Reach (at_version v m) s c mode
  pub estimates : (m : PlantModel) (v : ℕ) (s : List ℕ) (k : Option ℕ) (seen : List Pair) (s2 : List ℕ) (cost : ℕ)
      → Estimate m s k seen s2 cost ↔ Estimate (at_version v m) s k seen s2 cost

-- The prime implicants of a formula that is wished for.
use Rattle.std.specs.Prelude.{◌≤◌, ℕ, List, length, All, Contains, ◌↔◌}
use Rattle.cca_base.specs.declared.cube.Pair.{Pair}
use Rattle.cca_base.specs.declared.formula.Formula.{Formula}
use Rattle.cca_base.specs.PlantModel.{PlantModel}
use Rattle.cca_base.specs.Cube.{AreInCubeOrder, IsPart, IsRising}
use Rattle.cca_base.specs.Model.{HasMode}
use Rattle.cca_base.specs.State.{Follows}
use Rattle.prime_implicants.specs.Many.{AreMoreCubes}

-- a minimal cube from which the formula follows; its pairs are of the model, and rise
pub record IsImplicant (m : PlantModel) (f : Formula) (cube : List Pair) : Type 0 where
  pub rising : IsRising cube
  pub modes : All (λ p. HasMode m p.item p.value) cube
  pub follows : Follows m cube f
  pub minimal : (part : List Pair) → IsPart part cube → Follows m part f → IsPart cube part

-- exactly the formula's implicants, in cube order
pub record AreImplicants (m : PlantModel) (f : Formula) (cubes : List (List Pair)) : Type 0 where
  pub in_order : AreInCubeOrder cubes
  pub each : (cube : List Pair) → Contains cubes cube ↔ IsImplicant m f cube

-- no more implicants than so many
abbrev pub HasFewImplicants : PlantModel → Formula → ℕ → Type 0
HasFewImplicants m f most = (cubes : List (List Pair)) × AreImplicants m f cubes × (length cubes ≤ most)

-- more implicants than so many
abbrev pub HasManyImplicants : PlantModel → Formula → ℕ → Type 0
HasManyImplicants m f most = AreMoreCubes most (IsImplicant m f)

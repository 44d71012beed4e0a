-- The nominal state is the estimate if it shows what is seen.
use Rattle.std.proofs.Common.{◌≡◌, ℕ, inl, List, Option, refl, arith}
use Rattle.cca_base.specs.declared.cube.Pair.{Pair}
use Rattle.cca_base.specs.PlantModel.{PlantModel}
use Rattle.cca_base.specs.Model.{WellFormed}
use Rattle.cca_base.specs.State.{IsState}
use Rattle.cca_base.specs.Shown.{CanShow}
use Rattle.cca_base.specs.Successors.{Nominal}
use Rattle.cca_base.specs.Estimates.{Estimate}
use Rattle.cca_base.proofs.NominalLaws.{one_nominal, nominal_is_free}
use Rattle.cca_laws.proofs.CostLaws.{free_is_nominal}
use Rattle.cost_search.proofs.Ranks.{not_earlier}

-- it is the only state that costs nothing
pub nominal_estimate : (m : PlantModel) (s n : List ℕ) (k : Option ℕ) (seen : List Pair) → WellFormed m → IsState m s → Nominal m s k n → CanShow m n seen → Estimate m s k seen n 0
nominal_estimate m s n k seen well state nominal shows = record {
  consistent = record { costs = nominal_is_free m s n k well state nominal; world = shows.0; is_world = shows.1; agrees = shows.2 };
  least = λ u more other. omega arith;
  first = λ u other earlier.
      let same : u ≡ n = one_nominal m s k u n well.commands (free_is_nominal m s u k 0 well state other.costs refl) nominal in
      not_earlier 0 n u (inl (same, refl)) earlier;
}

-- What an estimate is, as a value.
use Rattle.std.specs.Prelude.{ℕ, List, Option}
use Rattle.cca_base.specs.declared.cube.Pair.{Pair}
use Rattle.cca_base.specs.PlantModel.{PlantModel}
use Rattle.cca_base.specs.Estimates as estimates
use Rattle.mode_estimator.specs.declared.answer.Estimate.{Estimate}
use Rattle.mode_estimator.specs.declared.answer.Estimate.TheVariants.{Found, Unexplained}

-- the estimate, or no state is consistent
abbrev pub IsEstimate : PlantModel → List ℕ → Option ℕ → List Pair → Estimate → Type 0
IsEstimate m s k seen (Found state cost) = estimates.Estimate m s k seen state.modes cost
IsEstimate m s k seen Unexplained = estimates.Unexplained m s k seen

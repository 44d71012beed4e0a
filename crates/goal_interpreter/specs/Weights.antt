-- Weights of modes.
use Rattle.std.specs.Prelude.{◌≡◌, ◌≤◌, ℕ, List, All, length, map}
use Rattle.cca_base.specs.PlantModel.{PlantModel}
use Rattle.cca_base.specs.Model.{mode_counts}
use Rattle.cca_base.specs.declared.limits.TheConstants.{MAX_WEIGHT}

-- a weight for each mode of each component, none of them too great
pub record AreWeights (m : PlantModel) (weights : List (List ℕ)) : Type 0 where
  pub full : map length weights ≡ mode_counts m
  pub small : All (All (λ weight. weight ≤ MAX_WEIGHT)) weights

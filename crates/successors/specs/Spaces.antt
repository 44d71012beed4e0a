-- Memory for the choices of ticks.
use Rattle.std.specs.Prelude.{◌≡◌, length, map}
use Rattle.cca_base.specs.PlantModel.{PlantModel}
use Rattle.cca_base.specs.Model.{mode_counts}
use Rattle.successors.specs.declared.choice_space.ChoiceSpace.{ChoiceSpace}

-- there is a row for each component of the model, with room for all its modes, and a cost for each of them
pub record IsChoiceSpace (m : PlantModel) (s : ChoiceSpace) : Type 0 where
  pub full : length s.rows.rows ≡ length m.components
  pub rooms : s.rows.rooms ≡ mode_counts m
  pub costs : map length s.costs.items ≡ mode_counts m

-- The move of a command.
use Rattle.std.proofs.Common.{◌≡◌, ℕ, List, slice_get, Some, Contains}
use Rattle.cca_base.specs.declared.model.Move.{Move}
use Rattle.cca_base.specs.PlantModel.{PlantModel}
use Rattle.cca_base.specs.Model.{WellFormed}
use Rattle.cca_base.specs.Steps.{Step}
use Rattle.cca_base.proofs.Commands.{one_named}

module _ (m : PlantModel) (w : WellFormed m) (s : List ℕ) (command : ℕ) (next : List ℕ) (step : Step m s command next) where
  -- a move that has the command and leaves a mode of the state is the step's
  pub the_move : (move : Move) → Contains m.moves move → move.command ≡ command → slice_get s move.component ≡ Some move.source → move ≡ step.move
  the_move move among named here = one_named m w.commands s command move step.move among step.of_model named step.command here step.source

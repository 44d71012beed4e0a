use Rattle.cca_laws.proofs.ChosenExamples.{first_is_named, first_move_is_chosen, first_cube_is_chosen}
use Rattle.cca_laws.proofs.examples.chosen.Goals as goal

pub returns-clause-named : goal.returns-clause-named
returns-clause-named c = first_is_named

pub returns-clause-first_move : goal.returns-clause-first_move
returns-clause-first_move c = first_move_is_chosen

pub returns-clause-first_cube : goal.returns-clause-first_cube
returns-clause-first_cube c = first_cube_is_chosen

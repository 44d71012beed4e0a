use Rattle.cca_laws.proofs.GoalLaws.{one_first_missing, none_under_no_order, sends_serve, standing_is_reached, standing_gives_no_commands}
use Rattle.cca_laws.proofs.laws.goals.Goals as goal

pub returns-clause-one : goal.returns-clause-one
returns-clause-one c = one_first_missing

pub returns-clause-none : goal.returns-clause-none
returns-clause-none c = none_under_no_order

pub returns-clause-serve : goal.returns-clause-serve
returns-clause-serve c = sends_serve

pub returns-clause-reached : goal.returns-clause-reached
returns-clause-reached c = standing_is_reached

pub returns-clause-commands : goal.returns-clause-commands
returns-clause-commands c = standing_gives_no_commands

pub returns-clause-idle : goal.returns-clause-idle
returns-clause-idle c = λ m s goal h. h

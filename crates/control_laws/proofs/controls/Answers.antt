use Rattle.control_laws.proofs.SomeTurn.{has_goals}
use Rattle.control_laws.proofs.Controlled.{one_control}
use Rattle.control_laws.proofs.ProgramPairs.{asks_of_program, left_at_first}
use Rattle.control_laws.proofs.Calls.{one_call, controls_on, program_stays}
use Rattle.control_laws.proofs.controls.Goals as goal

pub returns-clause-one : goal.returns-clause-one
returns-clause-one c = one_control

pub returns-clause-of_program : goal.returns-clause-of_program
returns-clause-of_program c = asks_of_program

pub returns-clause-call : goal.returns-clause-call
returns-clause-call c = one_call

pub returns-clause-on : goal.returns-clause-on
returns-clause-on c = controls_on

pub returns-clause-stays : goal.returns-clause-stays
returns-clause-stays c = program_stays

pub returns-clause-at_first : goal.returns-clause-at_first
returns-clause-at_first c = left_at_first

pub returns-clause-some : goal.returns-clause-some
returns-clause-some c = has_goals

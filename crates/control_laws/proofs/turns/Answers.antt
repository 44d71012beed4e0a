use Rattle.control_laws.proofs.OneTurn.{one_turn}
use Rattle.control_laws.proofs.PartTurns.{silent}
use Rattle.control_laws.proofs.SomeTurn.{has_turn}
use Rattle.control_laws.proofs.turns.Goals as goal

pub returns-clause-one : goal.returns-clause-one
returns-clause-one c = one_turn

pub returns-clause-silent : goal.returns-clause-silent
returns-clause-silent c = silent

pub returns-clause-some : goal.returns-clause-some
returns-clause-some c = has_turn

use Rattle.control_laws.proofs.FirstPairs.{first_of_each, goals_are_cubes, in_order_asked}
use Rattle.control_laws.proofs.Calls.{goal_of_turn}
use Rattle.control_laws.proofs.goals.Goals as goal

pub returns-clause-first : goal.returns-clause-first
returns-clause-first c = first_of_each

pub returns-clause-cubes : goal.returns-clause-cubes
returns-clause-cubes c = goals_are_cubes

pub returns-clause-of_turn : goal.returns-clause-of_turn
returns-clause-of_turn c = goal_of_turn

pub returns-clause-order : goal.returns-clause-order
returns-clause-order c = in_order_asked

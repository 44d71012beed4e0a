use Rattle.cca_laws.proofs.ObservedExamples.{pending_rises, nothing_mirrored, goal_is_turned, goal_is_kept_turned, tick_has_goal_turned}
use Rattle.cca_laws.proofs.examples.observed.Goals as goal

pub returns-clause-pending : goal.returns-clause-pending
returns-clause-pending c = pending_rises

pub returns-clause-mirrored : goal.returns-clause-mirrored
returns-clause-mirrored c = nothing_mirrored

pub returns-clause-goal : goal.returns-clause-goal
returns-clause-goal c = goal_is_turned

pub returns-clause-kept : goal.returns-clause-kept
returns-clause-kept c = goal_is_kept_turned

pub returns-clause-tick : goal.returns-clause-tick
returns-clause-tick c = tick_has_goal_turned

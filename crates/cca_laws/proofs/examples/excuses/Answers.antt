use Rattle.cca_laws.proofs.ExcuseExamples.{new_goal_is_no_excuse, goal_behind_reset_is_no_excuse, goal_between_is_no_excuse, clear_is_no_excuse, right_is_free, last_estimate_is_wrong, plant_is_seen}
use Rattle.cca_laws.proofs.examples.excuses.Goals as goal

pub returns-clause-new_goal : goal.returns-clause-new_goal
returns-clause-new_goal c = new_goal_is_no_excuse

pub returns-clause-behind_reset : goal.returns-clause-behind_reset
returns-clause-behind_reset c = goal_behind_reset_is_no_excuse

pub returns-clause-goal : goal.returns-clause-goal
returns-clause-goal c = goal_between_is_no_excuse

pub returns-clause-clear : goal.returns-clause-clear
returns-clause-clear c = clear_is_no_excuse

pub returns-clause-free : goal.returns-clause-free
returns-clause-free c = right_is_free

pub returns-clause-last : goal.returns-clause-last
returns-clause-last c = last_estimate_is_wrong

pub returns-clause-seen : goal.returns-clause-seen
returns-clause-seen c = plant_is_seen

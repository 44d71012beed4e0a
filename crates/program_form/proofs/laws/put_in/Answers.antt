use Rattle.program_form.proofs.PutInLaws.{asks_goal, turns_at_start, turns_by_report, resets_begin_again, others_pass, ends_in_its_turn, ends_once, put_in_splits, only_goals_are_put, turn_goal_is_in_force, done_lines}
use Rattle.program_form.proofs.laws.put_in.Goals as goal

pub returns-clause-asks : goal.returns-clause-asks
returns-clause-asks c = asks_goal

pub returns-clause-first : goal.returns-clause-first
returns-clause-first c = turns_at_start

pub returns-clause-next : goal.returns-clause-next
returns-clause-next c = turns_by_report

pub returns-clause-again : goal.returns-clause-again
returns-clause-again c = resets_begin_again

pub returns-clause-others : goal.returns-clause-others
returns-clause-others c = others_pass

pub returns-clause-turn : goal.returns-clause-turn
returns-clause-turn c = ends_in_its_turn

pub returns-clause-once : goal.returns-clause-once
returns-clause-once c = ends_once

pub returns-clause-splits : goal.returns-clause-splits
returns-clause-splits c = put_in_splits

pub returns-clause-only : goal.returns-clause-only
returns-clause-only c = only_goals_are_put

pub returns-clause-in_force : goal.returns-clause-in_force
returns-clause-in_force c = turn_goal_is_in_force

pub returns-clause-lines : goal.returns-clause-lines
returns-clause-lines c = done_lines

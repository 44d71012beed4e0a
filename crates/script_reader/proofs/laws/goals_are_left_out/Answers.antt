use Rattle.script_reader.proofs.LinesSayItems.{goal_is_malformed, others_stay, all_stay}
use Rattle.script_reader.proofs.laws.goals_are_left_out.Goals as goal

pub returns : goal.returns
returns c = record { malformed = goal_is_malformed; others = others_stay; elsewhere = all_stay }

-- Documents are computed.
use Rattle.std.proofs.Common.{refl}
use Rattle.std.specs.Fmt.{digits}
use Rattle.trial_maker.specs.Chains.{digits_text, mode_name, links}
use Rattle.trial_maker.specs.Documents.{setup_lines, all_lines, ticks}
use Rattle.trial_maker.specs.Draws.{next_number}
use Rattle.trial_maker.specs.Examples.{FirstNumber, FirstDraw, FirstGuard, FirstGoal, FirstFault, LeastSeed, SeedSeven, GreatestSeed}
use Rattle.trial_maker.specs.PlantLines.{component_line, variable_line, rule_line, plant_lines}
use Rattle.trial_maker.specs.ScriptLines.{mirror_line, mirror_lines, goal_line, drawn_goal, goal_lines, fault_line, drawn_fault, fault_lines, tick_lines}
use Rattle.trial_maker.specs.TransitionLines.{guard_of, transition_line, move_lines, failure_cost, failure_line, failure_lines}

pub first_number : FirstNumber
unfolding next_number
first_number = (refl, refl)

pub first_draw : FirstDraw
unfolding next_number
first_draw = refl

pub first_guard : FirstGuard
unfolding next_number digits digits_text mode_name links setup_lines all_lines plant_lines mirror_lines guard_of transition_line move_lines
first_guard = refl

pub first_goal : FirstGoal
unfolding next_number digits digits_text mode_name links setup_lines all_lines plant_lines mirror_lines guard_of transition_line move_lines failure_lines failure_cost ticks tick_lines goal_lines drawn_goal goal_line
first_goal = refl

pub first_fault : FirstFault
unfolding next_number digits digits_text mode_name links setup_lines all_lines plant_lines mirror_lines guard_of transition_line move_lines failure_lines failure_cost ticks tick_lines goal_lines drawn_goal fault_lines drawn_fault fault_line
first_fault = refl

pub least_seed : LeastSeed
unfolding next_number digits digits_text mode_name links setup_lines all_lines plant_lines component_line variable_line rule_line mirror_lines mirror_line guard_of transition_line move_lines failure_lines failure_cost failure_line ticks tick_lines goal_lines drawn_goal goal_line fault_lines drawn_fault fault_line
least_seed = record { lines = refl; bytes = refl; digits = refl }

pub seed_seven : SeedSeven
unfolding next_number digits digits_text mode_name links setup_lines all_lines plant_lines component_line variable_line rule_line mirror_lines mirror_line guard_of transition_line move_lines failure_lines failure_cost failure_line ticks tick_lines goal_lines drawn_goal goal_line fault_lines drawn_fault fault_line
seed_seven = record { lines = refl; bytes = refl; digits = refl }

pub greatest_seed : GreatestSeed
unfolding next_number digits digits_text mode_name links setup_lines all_lines plant_lines component_line variable_line rule_line mirror_lines mirror_line guard_of transition_line move_lines failure_lines failure_cost failure_line ticks tick_lines goal_lines drawn_goal goal_line fault_lines drawn_fault fault_line
greatest_seed = record { lines = refl; bytes = refl; digits = refl }

-- Every document has 200 ticks.
use Rattle.std.proofs.Common.{◌≡◌, ℕ, ◌-◌, ◌%◌, ◌==◌, Bool, true, false, List, [], ◌∷◌, length, refl, ◌∙◌, arith}
use Rattle.std.specs.Prelude.{count_by, cond}
use Rattle.std.proofs.lemmas.List.Sums.{sum_by-append}
use Rattle.trial_maker.specs.Chains.{links}
use Rattle.trial_maker.specs.Documents.{setup_lines, all_lines, ticks}
use Rattle.trial_maker.specs.Draws.{Drawing, draw, drawn_if, each}
use Rattle.trial_maker.specs.PlantLines.{component_line, variable_line, rule_line, plant_lines}
use Rattle.trial_maker.specs.ScriptLines.{mirror_line, mirror_lines, goal_line, drawn_goal, goal_lines, fault_line, drawn_fault, fault_lines, tick_lines}
use Rattle.trial_maker.specs.Sizes.{goal_period, fault_chances}
use Rattle.trial_maker.specs.TransitionLines.{transition_line, move_lines, failure_line, failure_lines}
use Rattle.trial_maker.specs.TrialLaws.{is_tick, TicksAreCounted}

-- no line before the ticks is one
none_before : (seed : ℕ) → count_by is_tick (setup_lines seed).0 ≡ 0
unfolding setup_lines links plant_lines component_line variable_line rule_line mirror_lines mirror_line transition_line move_lines failure_line failure_lines
none_before seed = refl

none_if : (test : Bool) (drawing : Drawing (List (List ℕ))) → ((x : ℕ) → count_by is_tick (drawing x).0 ≡ 0) → (x : ℕ) → count_by is_tick (drawn_if test drawing x).0 ≡ 0
none_if true drawing none x = none x
none_if false drawing none x = refl

none_of_goal : (x : ℕ) → count_by is_tick (drawn_goal x).0 ≡ 0
unfolding drawn_goal goal_line
none_of_goal x = refl

none_of_fault : (x : ℕ) → count_by is_tick (drawn_fault x).0 ≡ 0
unfolding drawn_fault fault_line
none_of_fault x = refl

no_goal : (tick x : ℕ) → count_by is_tick (goal_lines tick x).0 ≡ 0
unfolding goal_lines
no_goal tick x = none_if ((tick - 1) % goal_period == 0) drawn_goal none_of_goal x

no_fault : (x : ℕ) → count_by is_tick (fault_lines x).0 ≡ 0
unfolding fault_lines
no_fault x = none_if ((draw fault_chances x).0 == 0) drawn_fault none_of_fault (draw fault_chances x).1

one_tick : (tick x : ℕ) → count_by is_tick (tick_lines tick x).0 ≡ 1
unfolding tick_lines
one_tick tick x = simp (sum_by-append, no_goal, no_fault) refl

all_ticks : (all : List ℕ) (x : ℕ) → count_by is_tick (each tick_lines all x).0 ≡ length all
all_ticks [] x = refl
all_ticks (tick ∷ all) x =
    sum_by-append (λ line. cond (is_tick line) 1 0) (tick_lines tick x).0 (each tick_lines all (tick_lines tick x).1).0
    ∙ rw (one_tick, all_ticks all (tick_lines tick x).1) (omega arith)

ticks_length : length ticks ≡ 200
unfolding ticks
ticks_length = refl

pub ticks_are_counted : TicksAreCounted
unfolding all_lines
ticks_are_counted seed =
    sum_by-append (λ line. cond (is_tick line) 1 0) (setup_lines seed).0 (each tick_lines ticks (setup_lines seed).1).0
    ∙ rw (none_before, all_ticks ticks (setup_lines seed).1, ticks_length) refl

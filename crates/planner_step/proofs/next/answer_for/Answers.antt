use Rattle.std.proofs.Common.{ℕ, arith, List}
use Rattle.cca_base.specs.declared.cube.Pair.{Pair}
use Rattle.planner_step.specs.Toward.{IsWantedPair}
use Rattle.planner_step.proofs.Replies.{goal_within, goal_few, unreached_answer, first_wanted, send_answer, found_few, by_rule}
use Rattle.planner_step.specs.declared.answer.Answer.TheVariants.{Send, Achieved, Unreachable}
use Rattle.planner_step.proofs.next.answer_for.Goals as goal

pub first_unreached-requires-clause-within : goal.first_unreached-requires-clause-within
first_unreached-requires-clause-within g c =
    (goal_within c.args.tables.now c.classes-classes.ensures.tables c.args.state.now.modes c.requires.covers c.args.pairs.now c.requires.goal)

pub returns-in-Some-clause-rule : goal.returns-in-Some-clause-rule
returns-in-Some-clause-rule g c =
    unreached_answer c.args.tables.now c.classes-classes.ensures.tables c.args.state.now.modes c.requires.covers c.args.pairs.now c.requires.goal c.in-Some.pair
    c.in-Some.ensures.value

pub returns-in-Some-clause-steps : goal.returns-in-Some-clause-steps
returns-in-Some-clause-steps g c =
    let few = goal_few c.args.tables.now c.classes-classes.ensures.tables c.args.state.now.modes c.requires.covers c.args.pairs.now c.requires.goal in
    omega (arith, few, c.in-Some.ensures.steps)

pub command_toward-command-requires-clause-wanted : goal.command_toward-command-requires-clause-wanted
command_toward-command-requires-clause-wanted g c =
    first_wanted c.args.tables.now c.classes-classes.ensures.tables c.args.state.now.modes c.requires.covers c.args.pairs.now c.requires.goal
    c.in_default.ensures.value
    c.in-Some-first_missing.pair
    c.in-Some-first_missing.ensures

pub returns-in-None-clause-steps : goal.returns-in-None-clause-steps
returns-in-None-clause-steps g c =
    let few = goal_few c.args.tables.now c.classes-classes.ensures.tables c.args.state.now.modes c.requires.covers c.args.pairs.now c.requires.goal in
    omega (arith, few, c.in_default.ensures.steps)

pub returns-in-Some-first_missing-clause-rule : goal.returns-in-Some-first_missing-clause-rule
returns-in-Some-first_missing-clause-rule g c =
    send_answer c.args.tables.now c.classes-classes.ensures.tables c.args.state.now.modes c.requires.covers c.args.pairs.now c.requires.goal
    c.in_default.ensures.value
    c.in-Some-first_missing.pair
    c.in-Some-first_missing.ensures
    c.command_toward-command.result c.command_toward-command.ensures.0 c.command_toward-command.ensures.1

pub returns-in-Some-first_missing-clause-steps : goal.returns-in-Some-first_missing-clause-steps
returns-in-Some-first_missing-clause-steps g c =
    let s : List ℕ = c.args.state.now.modes in
    let p : Pair = c.in-Some-first_missing.pair in
    let few = goal_few c.args.tables.now c.classes-classes.ensures.tables s c.requires.covers c.args.pairs.now c.requires.goal in
    let wanted : IsWantedPair c.args.tables.now s p =
    first_wanted c.args.tables.now c.classes-classes.ensures.tables s c.requires.covers c.args.pairs.now c.requires.goal
    c.in_default.ensures.value
    p c.in-Some-first_missing.ensures in
    let looked = found_few c.args.tables.now c.classes-classes.ensures.tables s c.requires.covers c.args.pairs.now c.requires.goal c.command_toward-command.result c.command_toward-command.ensures.0 p wanted c.command_toward-command.ensures.1 in
    omega (arith, few, looked, c.command_toward-command.ensures.2, c.in_default.ensures.steps)

pub returns-in-Some-clause-promises : goal.returns-in-Some-clause-promises
returns-in-Some-clause-promises g c =
    (by_rule c.args.tables.now c.classes-classes.ensures.tables c.args.state.now.modes c.requires.covers c.args.pairs.now c.requires.goal (Unreachable c.in-Some.pair.item c.in-Some.pair.value) (returns-in-Some-clause-rule g c)).promises

pub returns-in-None-clause-promises : goal.returns-in-None-clause-promises
returns-in-None-clause-promises g c =
    (by_rule c.args.tables.now c.classes-classes.ensures.tables c.args.state.now.modes c.requires.covers c.args.pairs.now c.requires.goal Achieved c.in-None.ensures).promises

pub returns-in-Some-first_missing-clause-promises : goal.returns-in-Some-first_missing-clause-promises
returns-in-Some-first_missing-clause-promises g c =
    (by_rule c.args.tables.now c.classes-classes.ensures.tables c.args.state.now.modes c.requires.covers c.args.pairs.now c.requires.goal (Send c.command_toward-command.result) (returns-in-Some-first_missing-clause-rule g c)).promises

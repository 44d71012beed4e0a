use Rattle.std.proofs.Common.{subst, refl}
use Rattle.planner_step.proofs.Replies.{goal_inside}
use Rattle.plan_runner.specs.Walked.{IsWalked}
use Rattle.planner_step.proofs.Along.{plan_of}
use Rattle.plan_runner.proofs.plans.whole_plan.Goals as goal

pub walk-requires-clause-inside : goal.walk-requires-clause-inside
walk-requires-clause-inside c =
    goal_inside c.args.tables.now c.classes-classes.ensures.tables c.args.state.now.modes c.requires.covers c.args.goal.now.pairs c.requires.goal c.requires.reached

pub returns-in-Ended : goal.returns-in-Ended
returns-in-Ended c =
    let inside = goal_inside c.args.tables.now c.classes-classes.ensures.tables c.args.state.now.modes c.requires.covers c.args.goal.now.pairs c.requires.goal c.requires.reached in
    let walked = subst (IsWalked c.args.tables.now.classes.compiled c.args.goal.now.pairs c.args.state.now.modes) c.in-Ended.is c.in_ok-plan.ensures in
    let plan = plan_of c.args.tables.now c.classes-classes.ensures.tables c.args.state.now.modes c.requires.covers c.args.goal.now.pairs c.requires.goal.in_order inside
    c.in-Ended.plan c.in-Ended.end.modes walked.0 in
    record { commands = c.in-Ended.plan; last = c.in-Ended.end.modes; plan = plan; shows = (refl, walked.1) }

pub returns : goal.returns
returns c =
    let inside = goal_inside c.args.tables.now c.classes-classes.ensures.tables c.args.state.now.modes c.requires.covers c.args.goal.now.pairs c.requires.goal c.requires.reached in
    let walked = subst (IsWalked c.args.tables.now.classes.compiled c.args.goal.now.pairs c.args.state.now.modes) c.in-Endless.is c.in_ok-plan.ensures in
    let plan = plan_of c.args.tables.now c.classes-classes.ensures.tables c.args.state.now.modes c.requires.covers c.args.goal.now.pairs c.requires.goal.in_order inside
    walked.0 walked.1 walked.2 in
    record { commands = walked.0; last = walked.1; plan = plan; shows = walked.3 }

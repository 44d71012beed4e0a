use Rattle.std.proofs.Common.{subst}
use Rattle.planner_step.proofs.Replies.{goal_inside}
use Rattle.plan_runner.specs.Walked.{IsWalked}
use Rattle.plan_runner.proofs.ThereAndBack.{covers_end, still_stuck, ended_back, endless, endless_back}
use Rattle.plan_runner.proofs.plans.route_of.Goals as goal

pub walk-requires-clause-inside : goal.walk-requires-clause-inside
walk-requires-clause-inside c =
    goal_inside c.args.tables.now c.classes-classes.ensures.tables c.args.state.now.modes c.requires.covers c.args.goal.now.pairs c.requires.goal c.requires.reached

pub way_back-requires-clause-from : goal.way_back-requires-clause-from
way_back-requires-clause-from c =
    let walked = subst (IsWalked c.args.tables.now.classes.compiled c.args.goal.now.pairs c.args.state.now.modes) c.in-Ended.is c.in_ok-plan.ensures in
    covers_end c.args.tables.now c.classes-classes.ensures.tables c.args.state.now.modes c.requires.covers c.args.goal.now.pairs c.requires.goal c.requires.reached
    c.in-Ended.plan c.in-Ended.end.modes walked.0

pub returns-in-Endless-clause-route : goal.returns-in-Endless-clause-route
returns-in-Endless-clause-route c =
    let walked = subst (IsWalked c.args.tables.now.classes.compiled c.args.goal.now.pairs c.args.state.now.modes) c.in-Endless.is c.in_ok-plan.ensures in
    endless c.args.tables.now c.classes-classes.ensures.tables c.args.state.now.modes c.requires.covers c.args.goal.now.pairs c.requires.goal c.requires.reached walked.0 walked.1 walked.2 walked.3

pub returns-in-Endless-clause-there_and_back : goal.returns-in-Endless-clause-there_and_back
returns-in-Endless-clause-there_and_back c =
    let walked = subst (IsWalked c.args.tables.now.classes.compiled c.args.goal.now.pairs c.args.state.now.modes) c.in-Endless.is c.in_ok-plan.ensures in
    endless_back c.args.tables.now c.classes-classes.ensures.tables c.args.state.now.modes c.requires.covers c.args.goal.now.pairs c.requires.goal c.requires.reached walked.0 walked.1 walked.2 walked.3

pub returns-in_ok-back-in-Ended-clause-there_and_back : goal.returns-in_ok-back-in-Ended-clause-there_and_back
returns-in_ok-back-in-Ended-clause-there_and_back c =
    let walked = subst (IsWalked c.args.tables.now.classes.compiled c.args.goal.now.pairs c.args.state.now.modes) c.in-Ended.is c.in_ok-plan.ensures in
    ended_back c.args.tables.now c.classes-classes.ensures.tables c.args.state.now.modes c.requires.covers c.args.goal.now.pairs c.requires.goal c.requires.reached
    c.in-Ended.plan c.in-Ended.end.modes c.in_ok-back-in-Ended.back walked.0 walked.1 c.in_ok-back-in-Ended.ensures

pub way_back-requires-clause-stuck : goal.way_back-requires-clause-stuck
way_back-requires-clause-stuck c =
    let walked = subst (IsWalked c.args.tables.now.classes.compiled c.args.goal.now.pairs c.args.state.now.modes) c.in-Ended.is c.in_ok-plan.ensures in
    still_stuck c.args.tables.now c.classes-classes.ensures.tables c.args.state.now.modes c.requires.covers c.args.goal.now.pairs c.requires.goal c.requires.reached
    c.in-Ended.plan c.in-Ended.end.modes walked.0

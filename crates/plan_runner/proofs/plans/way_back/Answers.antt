use Rattle.std.proofs.lemmas.Result.{IfOk-weaker}
use Rattle.plan_runner.specs.Plans.{IsWholePlan}
use Rattle.plan_runner.specs.WaysBack.{IsWholeWayBack}
use Rattle.plan_runner.proofs.ThereAndBack.{goal_back, reached_back, way_of}
use Rattle.plan_runner.proofs.plans.way_back.Goals as goal

pub whole_plan-requires-clause-goal : goal.whole_plan-requires-clause-goal
whole_plan-requires-clause-goal c =
    goal_back c.args.tables.now c.classes-classes.ensures.tables c.args.to.now.modes c.requires.to c.in_ok-goal.goal.pairs c.in_ok-goal.ensures

pub whole_plan-requires-clause-reached : goal.whole_plan-requires-clause-reached
whole_plan-requires-clause-reached c =
    reached_back c.args.tables.now c.classes-classes.ensures.tables c.args.to.now.modes c.requires.to c.in_ok-goal.goal.pairs c.in_ok-goal.ensures c.args.from.now.modes c.requires.from

pub returns : goal.returns
returns c =
    IfOk-weaker c.whole_plan.result (IsWholePlan c.args.tables.now c.args.from.now.modes c.in_ok-goal.goal.pairs) (IsWholeWayBack c.args.tables.now c.args.from.now.modes c.args.to.now.modes)
    (way_of c.args.tables.now c.classes-classes.ensures.tables c.args.to.now.modes c.requires.to c.in_ok-goal.goal.pairs c.in_ok-goal.ensures c.args.from.now.modes c.requires.from c.requires.stuck)
    c.whole_plan.ensures

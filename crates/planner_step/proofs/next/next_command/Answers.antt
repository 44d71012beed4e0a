use Rattle.std.proofs.Common.{subst}
use Rattle.reach_laws.specs.Plans.{IsAnswer}
use Rattle.planner_step.specs.Planning.{cells_of, member_of, reply_of}
use Rattle.planner_step.proofs.Along.{plan_of, some_plan}
use Rattle.planner_step.proofs.Replies.{goal_inside, IsExactly, by_rule}
use Rattle.planner_step.proofs.next.next_command.Given.{Over}
use Rattle.planner_step.proofs.next.next_command.Goals as goal

-- what is exact of the reply by the rule
exactly : (g : Over) (c : goal.After-answer_for g) → IsExactly c.args.tables.now c.classes-classes.ensures.tables c.args.state.now.modes c.requires.covers c.args.goal.now.pairs c.requires.goal c.answer_for.result
exactly g c = by_rule c.args.tables.now c.classes-classes.ensures.tables c.args.state.now.modes c.requires.covers c.args.goal.now.pairs c.requires.goal c.answer_for.result
    (subst (λ ps. IsAnswer (member_of c.args.tables.now) (cells_of c.args.tables.now) c.args.state.now.modes ps (reply_of c.answer_for.result)) c.as_slice.ensures c.answer_for.ensures.rule)

pub returns-clause-achieved : goal.returns-clause-achieved
returns-clause-achieved g c = (exactly g c).achieved

pub returns-clause-unreachable : goal.returns-clause-unreachable
returns-clause-unreachable g c = (exactly g c).unreachable

pub returns-clause-reached : goal.returns-clause-reached
returns-clause-reached g c = (exactly g c).reached

pub returns-clause-promises : goal.returns-clause-promises
returns-clause-promises g c = (exactly g c).promises

pub returns-clause-plan : goal.returns-clause-plan
returns-clause-plan g c reached =
    let inside = goal_inside c.args.tables.now c.classes-classes.ensures.tables c.args.state.now.modes c.requires.covers c.args.goal.now.pairs c.requires.goal reached in
    let some = some_plan c.args.tables.now c.classes-classes.ensures.tables c.args.state.now.modes c.requires.covers c.args.goal.now.pairs c.requires.goal.in_order inside in
    (some.0, some.1, plan_of c.args.tables.now c.classes-classes.ensures.tables c.args.state.now.modes c.requires.covers c.args.goal.now.pairs c.requires.goal.in_order inside some.0 some.1 some.2)

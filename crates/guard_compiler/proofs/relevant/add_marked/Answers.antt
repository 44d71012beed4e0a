use Rattle.guard_compiler.proofs.MarkLaws.{keeps_same, one_rule_below}
use Rattle.guard_compiler.proofs.relevant.add_marked.Goals as goal

pub bears-requires-clause-below : goal.bears-requires-clause-below
bears-requires-clause-below c =
    (one_rule_below c.args.rules.now c.args.marks.now c.args.marks.now c.loop-rule.rule-index c.rule-item.result c.requires (keeps_same c.args.marks.now) c.loop-rule-test.true c.rule-item.is).0

pub bears-requires-clause-owner : goal.bears-requires-clause-owner
bears-requires-clause-owner c =
    (one_rule_below c.args.rules.now c.args.marks.now c.args.marks.now c.loop-rule.rule-index c.rule-item.result c.requires (keeps_same c.args.marks.now) c.loop-rule-test.true c.rule-item.is).1

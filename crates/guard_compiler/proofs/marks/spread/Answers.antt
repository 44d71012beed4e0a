use Rattle.std.proofs.Common.{◌∙◌, sym}
use Rattle.guard_compiler.proofs.MarkLaws.{one_rule_below, spread_no, spread_new, spread_same, spread_all}
use Rattle.guard_compiler.proofs.marks.spread.Goals.{then-bears+then-mark, else-bears, else-bears-via-then-bears+else-mark, else-bears-via-else-bears}
use Rattle.guard_compiler.proofs.marks.spread.Goals as goal

pub bears-requires-clause-below : goal.bears-requires-clause-below
bears-requires-clause-below c =
    (one_rule_below c.args.rules.now c.args.marks.now c.loop-rule.marks c.loop-rule.rule-index c.rule-item.result c.requires c.loop-rule.invariant.keeps c.loop-rule-test.true c.rule-item.is).0

pub bears-requires-clause-owner : goal.bears-requires-clause-owner
bears-requires-clause-owner c =
    (one_rule_below c.args.rules.now c.args.marks.now c.loop-rule.marks c.loop-rule.rule-index c.rule-item.result c.requires c.loop-rule.invariant.keeps c.loop-rule-test.true c.rule-item.is).1

pub mark-requires : goal.mark-requires
mark-requires c =
    (one_rule_below c.args.rules.now c.args.marks.now c.loop-rule.marks c.loop-rule.rule-index c.rule-item.result c.requires c.loop-rule.invariant.keeps c.loop-rule-test.true c.rule-item.is).0

pub loop-rule-preserved : goal.loop-rule-preserved
loop-rule-preserved c =
    let n = c.args.components in
    let rules = c.args.rules.now in
    let old = c.args.marks.now in
    let now = c.loop-rule.marks in
    let fresh = c.loop-rule.fresh in
    let i = c.loop-rule.rule-index in
    let rule = c.rule-item.result in
    let h = c.loop-rule.invariant in
    elim c.if-bears.branch [
      | then-bears+then-mark w ↦ rw (w.marks-is, w.fresh-is) (spread_new n rules old now fresh i rule h c.loop-rule-test.true c.rule-item.is w.mark.new.marks w.mark.ensures.keeps (rw w.if-mark.true at w.mark.ensures.fresh))
      | else-bears w ↦ elim w.else-bears.branch [
        | else-bears-via-then-bears+else-mark v ↦ rw (w.marks-is, w.fresh-is, v.marks-is) (spread_same n rules old now fresh i rule h c.loop-rule-test.true c.rule-item.is v.mark.new.marks v.mark.ensures.over (rw v.if-mark.false at v.mark.ensures.fresh))
        | else-bears-via-else-bears v ↦ rw (w.marks-is, w.fresh-is, v.marks-is) (spread_no n rules old now fresh i rule h c.loop-rule-test.true c.rule-item.is (sym c.bears.ensures ∙ v.if-bears.false))
      ]
    ]

pub returns-clause-fresh : goal.returns-clause-fresh
returns-clause-fresh c =
    spread_all c.args.components c.args.rules.now c.args.marks.now c.loop-rule.marks c.loop-rule.fresh c.loop-rule.rule-index c.loop-rule-test.false c.loop-rule.invariant

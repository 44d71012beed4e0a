use Rattle.std.proofs.Common.{length, ap, subst, arith}
use Rattle.cca_base.specs.Relations.{AreExactly}
use Rattle.cca_base.specs.Flags.{IsSet}
use Rattle.acceptance.proofs.NeededMarks.{row_none, row_more, row_all}
use Rattle.acceptance.proofs.needs.needs_of.Goals as goal

pub loop-c-init : goal.loop-c-init
loop-c-init c = rw c.new-rows.ensures (row_none c.args.model.now)

pub loop-c-preserved : goal.loop-c-preserved
loop-c-preserved c =
    let row = c.in_ok-listed.field-0 in
    let exact : AreExactly (IsSet c.in_ok-marks.marks.items) row = subst (λ l. AreExactly (IsSet l) row) c.as_slice.ensures.value c.in_ok-listed.ensures in
    rw c.in_ok-push.ensures.ok (row_more c.args.model.now c.loop-c.rows c.loop-c.c c.in_ok-marks.marks.items row c.loop-c.invariant c.in_ok-marks.ensures exact)

pub returns-clause-needs : goal.returns-clause-needs
returns-clause-needs c = row_all c.args.model.now c.loop-c.rows c.loop-c.c (omega (arith, c.loop-c-test.false, c.loop-c.auto.c-end, c.len-c-end.ensures, ap length c.components.ensures.value)) c.loop-c.invariant

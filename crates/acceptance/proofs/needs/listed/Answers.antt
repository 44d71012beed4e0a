use Rattle.std.proofs.Common.{arith}
use Rattle.causal_graph.proofs.ReachedRows.{listed_none, listed_yes, listed_no}
use Rattle.acceptance.proofs.NeededMarks.{listed_whole}
use Rattle.acceptance.proofs.needs.listed.Goals.{then-marked+in_ok-push, else-marked}
use Rattle.acceptance.proofs.needs.listed.Goals as goal

pub loop-u-init : goal.loop-u-init
loop-u-init c = rw c.new-list.ensures (listed_none c.args.marks.now)

pub loop-u-preserved : goal.loop-u-preserved
loop-u-preserved c =
    elim c.if-marked.branch [
      | then-marked+in_ok-push w ↦ rw (w.list-is, w.in_ok-push.ensures.ok) (listed_yes c.args.marks.now c.loop-u.list c.loop-u.u c.loop-u.invariant w.if-marked.true)
      | else-marked w ↦ rw w.list-is (listed_no c.args.marks.now c.loop-u.list c.loop-u.u c.loop-u.invariant w.if-marked.false)
    ]

pub returns : goal.returns
returns c = listed_whole c.args.marks.now c.loop-u.list c.loop-u.u (omega (arith, c.loop-u-test.false)) c.loop-u.invariant

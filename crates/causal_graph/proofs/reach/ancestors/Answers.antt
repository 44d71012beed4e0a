use Rattle.std.proofs.Common.{◌≡◌, false, get_or, ◌∙◌, sym, arith}
use Rattle.std.proofs.lemmas.List.{get_or_read}
use Rattle.causal_graph.proofs.ReachedRows.{listed_none, listed_yes, listed_no, listed_all}
use Rattle.causal_graph.proofs.reach.ancestors.Goals.{then-index+in_ok-push, else-index}
use Rattle.causal_graph.proofs.reach.ancestors.Goals as goal

pub loop-u-init : goal.loop-u-init
loop-u-init c = rw c.new-list.ensures (listed_none c.in_ok-flags.flags.items)

pub loop-u-preserved : goal.loop-u-preserved
loop-u-preserved c =
    let flags = c.in_ok-flags.flags.items in
    let i = c.loop-u.u in
    let read : c.index.result.now ≡ get_or flags i false = get_or_read flags i c.index.result.now (omega (arith, c.loop-u-test.true, c.len-u-end.ensures, c.in_ok-flags.flags.ok.0)) c.index.ensures false in
    elim c.if-index.branch [
      | then-index+in_ok-push w ↦ rw (w.list-is, w.in_ok-push.ensures.ok) (listed_yes flags c.loop-u.list i c.loop-u.invariant (sym read ∙ w.if-index.true))
      | else-index w ↦ rw w.list-is (listed_no flags c.loop-u.list i c.loop-u.invariant (sym read ∙ w.if-index.false))
    ]

pub returns : goal.returns
returns c = listed_all c.in_ok-flags.flags.items c.loop-u.list c.loop-u.u c.loop-u.invariant c.args.needs.now c.args.c c.in_ok-flags.ensures.reached (omega (arith, c.loop-u-test.false, c.len-u-end.ensures, c.in_ok-flags.flags.ok.0))

pub overflow_cast-u : goal.overflow_cast-u
overflow_cast-u c =
    let flags = c.in_ok-flags.flags.items in
    let i = c.loop-u.u in
    let read : c.index.result.now ≡ get_or flags i false = get_or_read flags i c.index.result.now (omega (arith, c.loop-u-test.true, c.len-u-end.ensures, c.in_ok-flags.flags.ok.0)) c.index.ensures false in
    omega (arith, c.in_ok-flags.ensures.narrow i (sym read ∙ c.if-index.true))

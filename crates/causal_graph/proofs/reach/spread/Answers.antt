use Rattle.std.proofs.Common.{◌≡◌, [], get_or, sym, ◌∙◌, arith}
use Rattle.std.proofs.lemmas.Option.{get_or_from_slice_get}
use Rattle.causal_graph.proofs.ReachedRows.{spread_none, spread_all, spread_no, spread_new, spread_same}
use Rattle.causal_graph.proofs.reach.spread.Goals.{then-flags-c+then-mark, else-flags-c, else-flags-c-via-then-flags-c+else-mark, else-flags-c-via-else-flags-c}
use Rattle.causal_graph.proofs.reach.spread.Goals as goal

pub loop-c-init : goal.loop-c-init
loop-c-init c = spread_none c.args.needs.now c.args.flags.now

pub loop-c-preserved : goal.loop-c-preserved
loop-c-preserved c =
    let rows = c.args.needs.now in
    let old = c.args.flags.now in
    let i = c.loop-c.c in
    elim c.if-flags-c.branch [
      | then-flags-c+then-mark w ↦
          let row : get_or rows i [] ≡ w.as_slice.result.now = get_or_from_slice_get rows i w.get.result.now [] w.get.ensures.value ∙ sym w.as_slice.ensures in
          rw (w.flags-is, w.fresh-is) (spread_new rows old c.loop-c.flags c.loop-c.fresh i c.loop-c.invariant w.as_slice.result.now w.mark.new.flags row w.if-flags-c.true w.mark.ensures.marks w.mark.ensures.narrow w.if-mark.ensures.fresh)
      | else-flags-c w ↦ elim w.else-flags-c.branch [
        | else-flags-c-via-then-flags-c+else-mark w2 ↦
            let row : get_or rows i [] ≡ w2.as_slice.result.now = get_or_from_slice_get rows i w2.get.result.now [] w2.get.ensures.value ∙ sym w2.as_slice.ensures in
            rw (w.flags-is, w.fresh-is, w2.flags-is) (spread_same rows old c.loop-c.flags c.loop-c.fresh i c.loop-c.invariant w2.as_slice.result.now w2.mark.new.flags row w2.if-flags-c.true w2.mark.ensures.marks w2.mark.ensures.narrow w2.if-mark.ensures.fresh)
        | else-flags-c-via-else-flags-c w2 ↦ rw (w.flags-is, w.fresh-is, w2.flags-is) (spread_no rows old c.loop-c.flags c.loop-c.fresh i c.loop-c.invariant w2.if-flags-c.false)
      ]
    ]

pub returns-clause-spreads : goal.returns-clause-spreads
returns-clause-spreads c = spread_all c.args.needs.now c.args.flags.now c.loop-c.flags c.loop-c.fresh c.loop-c.c (omega (arith, c.len-c-end.ensures)) c.loop-c.invariant

pub returns-clause-fresh : goal.returns-clause-fresh
returns-clause-fresh c = c.loop-c.invariant.fresh_is

pub returns-clause-narrow : goal.returns-clause-narrow
returns-clause-narrow c = c.loop-c.invariant.narrow

use Rattle.std.proofs.Common.{arith}
use Rattle.std.proofs.lemmas.List.{get_or_read}
use Rattle.std.proofs.lemmas.Result.{IfOk-weaker}
use Rattle.cca_base.specs.Relations.{IsShownCycleBy}
use Rattle.causal_graph.specs.Needs.{RowNeeds}
use Rattle.causal_graph.specs.Search.{IsFirstCycle}
use Rattle.causal_graph.proofs.ShownCycle.{searched_more, is_shown, not_stuck}
use Rattle.causal_graph.proofs.cycle.shown_cycle.Goals as goal

pub returns-then-index-gt0 : goal.returns-then-index-gt0
returns-then-index-gt0 c =
    let rows = c.args.needs.now in
    let i = c.components.c in
    IfOk-weaker c.shortest.result (IsFirstCycle rows i) (IsShownCycleBy (RowNeeds rows)) (λ list first. is_shown rows i list c.components.invariant first) c.shortest.ensures

pub components-preserved : goal.components-preserved
components-preserved c =
    let rows = c.args.needs.now in
    let i = c.components.c in
    let distances = c.in_ok-to_it.to_it.items in
    let read = get_or_read distances i c.index.result.now (omega (arith, c.components-test.true, c.len-c-end.ensures, c.in_ok-to_it.ensures.full)) c.index.ensures 0 in
    searched_more rows i distances c.components.invariant c.in_ok-to_it.ensures (omega (arith, read, c.if-index-gt0.false))

pub unreachable-requires : goal.unreachable-requires
unreachable-requires c = not_stuck c.args.needs.now c.components.c c.requires.rows (omega (arith, c.len-c-end.ensures, c.components-test.false)) c.components.invariant c.requires.stuck

use Rattle.std.specs.BinaryHeap.{heap_items}
use Rattle.cost_search.proofs.Queues.{replaced-each, replaced-covers, replaced-fewer}
use Rattle.cost_search.proofs.queue.settle_part.Goals as goal

pub loop-pieces-smaller : goal.loop-pieces-smaller
loop-pieces-smaller c =
    let instead = rw c.in-Some.is at c.in_ok-pieces.ensures.some in
    replaced-fewer c.args.rows.now c.args.last.now c.args.cuts.now (heap_items c.loop-pieces.parts) (heap_items c.in-Some.pieces) (heap_items c.replace_top.new.parts) c.in_ok-replace_top.ensures.ok instead

pub loop-pieces-preserved : goal.loop-pieces-preserved
loop-pieces-preserved c =
    let instead = rw c.in-Some.is at c.in_ok-pieces.ensures.some in
    let old = heap_items c.loop-pieces.parts in
    let pieces = heap_items c.in-Some.pieces in
    let new = heap_items c.replace_top.new.parts in
    record {
      queue = record {
        heap = c.in_ok-replace_top.ensures.heap c.loop-pieces.invariant.queue.heap;
        each = replaced-each c.args.rows.now c.args.last.now c.args.cuts.now old pieces new c.in_ok-replace_top.ensures.ok instead c.loop-pieces.invariant.queue.each;
      };
      covers = λ before. replaced-covers c.args.rows.now c.args.last.now c.args.cuts.now old pieces new c.in_ok-replace_top.ensures.ok instead (c.loop-pieces.invariant.covers before);
    }

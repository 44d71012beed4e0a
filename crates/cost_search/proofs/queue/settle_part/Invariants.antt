use Rattle.std.specs.BinaryHeap.{heap_items}
use Rattle.cost_search.specs.SearchParts.{size_of}
use Rattle.cost_search.specs.Queue.{Covers, IsQueue}
use Rattle.cost_search.proofs.queue.settle_part.Given as goal

abbrev pub invariant-loop-pieces : goal.invariant-loop-pieces
invariant-loop-pieces l = record {
  queue : IsQueue l.rows (heap_items l.parts);
  covers : Covers l.rows l.last l.cuts (heap_items l.fn.parts) → Covers l.rows l.last l.cuts (heap_items l.parts);
}

abbrev pub decreases-loop-pieces : goal.decreases-loop-pieces
decreases-loop-pieces l = size_of l.rows (heap_items l.parts)

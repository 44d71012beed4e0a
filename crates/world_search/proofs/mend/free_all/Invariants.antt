use Rattle.std.proofs.Common.{◌≡◌, length}
use Rattle.world_search.proofs.mend.free_all.Given as goal

abbrev pub invariant-loop-v : goal.invariant-loop-v
invariant-loop-v l = record {
  fixed : length l.mending.fixed.items ≡ length l.fn.mending.fixed.items;
  queue : length l.mending.queue.items ≡ length l.fn.mending.queue.items;
}

use Rattle.std.proofs.Common.{◌≡◌, ◌-◌, length}
use Rattle.world_search.specs.Mended.{HasRoom}
use Rattle.world_search.proofs.mend.mend_changed.Given as goal

abbrev pub invariant-changed : goal.invariant-changed
invariant-changed l = record {
  trial : length l.trial ≡ length l.fn.trial;
  room : HasRoom (length l.fn.trial) l.mending;
  queue : length l.mending.queue.items ≡ length l.fn.mending.queue.items;
}

abbrev pub decreases-changed : goal.decreases-changed
decreases-changed l = length l.fn.mending.queue.items - l.at

use Rattle.std.proofs.Common.{◌≡◌, length}
use Rattle.world_search.specs.Mended.{HasRoom}
use Rattle.world_search.proofs.mend.put_left.Given as goal

abbrev pub invariant-loop-v : goal.invariant-loop-v
invariant-loop-v l = record {
  trial : length l.trial ≡ length l.fn.trial;
  room : HasRoom (length l.fn.trial) l.mending;
}

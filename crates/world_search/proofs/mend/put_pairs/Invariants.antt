use Rattle.std.proofs.Common.{◌≡◌, length}
use Rattle.world_search.specs.Mended.{HasRoom}
use Rattle.world_search.proofs.mend.put_pairs.Given as goal

abbrev pub invariant-loop-pair : goal.invariant-loop-pair
invariant-loop-pair l = record {
  trial : length l.trial ≡ length l.fn.trial;
  room : HasRoom (length l.fn.trial) l.mending;
}

use Rattle.std.proofs.Common.{◌≡◌, length}
use Rattle.world_search.specs.Mended.{HasRoom}
use Rattle.world_search.proofs.mend.mend_places.Given as goal

abbrev pub invariant-loop-place : goal.invariant-loop-place
invariant-loop-place l = record {
  trial : length l.trial ≡ length l.fn.trial;
  room : HasRoom (length l.fn.trial) l.mending;
}

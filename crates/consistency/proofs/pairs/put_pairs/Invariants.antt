use Rattle.std.proofs.Common.{◌≡◌, length, take}
use Rattle.cca_base.specs.Repairs.{pairs_of}
use Rattle.consistency.proofs.pairs.put_pairs.Given as goal

abbrev pub invariant-loop-item : goal.invariant-loop-item
invariant-loop-item l = record {
  pairs : take l.item l.pairs ≡ pairs_of (take l.item l.modes);
  long : length l.pairs ≡ length l.fn.pairs;
}

use Rattle.std.proofs.Common.{◌≡◌, ◌≤◌, length, take}
use Rattle.consistency.specs.Cores.{pairs_in}
use Rattle.consistency.proofs.clash.write_in.Given as goal

abbrev pub invariant-loop-pair : goal.invariant-loop-pair
invariant-loop-pair l = record {
  items : l.among.items ≡ pairs_in l.subjects (take l.pair-index l.pairs);
  few : length l.among.items ≤ l.pair-index;
  room : l.among.room ≡ l.fn.among.room;
}

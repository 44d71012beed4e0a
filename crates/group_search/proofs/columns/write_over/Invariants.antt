use Rattle.std.proofs.Common.{◌≡◌, length, take}
use Rattle.group_search.proofs.columns.write_over.Given as goal

abbrev pub invariant-loop-at : goal.invariant-loop-at
invariant-loop-at g l = record {
  long : length l.over ≡ length l.items;
  done : take l.at l.over ≡ take l.at l.items;
}

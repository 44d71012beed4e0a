use Rattle.std.proofs.Common.{◌≡◌, ◌≤◌, length}
use Rattle.group_search.proofs.focus.write_cuts.Given as goal

abbrev pub invariant-loop-at : goal.invariant-loop-at
invariant-loop-at l = record {
  few : length l.places.items ≤ l.at;
  room : l.places.room ≡ l.fn.places.room;
}

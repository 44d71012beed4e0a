use Rattle.std.proofs.Common.{◌≡◌, ◌≤◌, length, vec_capacity}
use Rattle.successors.proofs.Changes.{IsRowTo}
use Rattle.successors.proofs.row.fill_row.Given as goal

abbrev pub invariant-loop-to : goal.invariant-loop-to
invariant-loop-to l = record {
  row : IsRowTo l.model l.component l.from l.nominal l.to l.row.items;
  len : length l.row.items ≤ l.to;
  room : vec_capacity l.row ≡ vec_capacity l.fn.row;
}

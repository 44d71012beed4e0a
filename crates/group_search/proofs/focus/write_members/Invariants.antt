use Rattle.std.proofs.Common.{◌≡◌, ◌≤◌, filter, length}
use Rattle.cca_base.specs.Relations.{numbers_below}
use Rattle.group_search.specs.Questions.{in_group}
use Rattle.group_search.proofs.focus.write_members.Given as goal

abbrev pub invariant-loop-c : goal.invariant-loop-c
invariant-loop-c l = record {
  items : l.members.items ≡ filter (in_group l.names l.group) (numbers_below l.c);
  few : length l.members.items ≤ l.c;
  room : l.members.room ≡ l.fn.members.room;
}

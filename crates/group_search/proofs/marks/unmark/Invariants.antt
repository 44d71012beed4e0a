use Rattle.std.proofs.Common.{◌≡◌, length}
use Rattle.group_search.proofs.marks.unmark.Given as goal

abbrev pub invariant-loop-c : goal.invariant-loop-c
invariant-loop-c l = length l.marks ≡ length l.fn.marks

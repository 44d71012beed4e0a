use Rattle.std.proofs.Common.{◌≡◌, length}
use Rattle.group_search.proofs.marks.clear.Given as goal

abbrev pub invariant-loop-at : goal.invariant-loop-at
invariant-loop-at l = length l.marks ≡ length l.fn.marks

use Rattle.std.proofs.Common.{◌≡◌, length}
use Rattle.group_search.proofs.marks.mark.Given as goal

abbrev pub invariant-loop-pair : goal.invariant-loop-pair
invariant-loop-pair l = length l.marks ≡ length l.fn.marks

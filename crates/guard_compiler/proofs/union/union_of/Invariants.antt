use Rattle.std.proofs.Common.{◌+◌, length}
use Rattle.guard_compiler.proofs.Merged.{IsMerged}
use Rattle.guard_compiler.proofs.union.union_of.Given as goal

abbrev pub decreases-loop-p : goal.decreases-loop-p
decreases-loop-p l = length l.left + length l.right

abbrev pub invariant-loop-p : goal.invariant-loop-p
invariant-loop-p l = IsMerged l.first l.second l.union l.left l.right

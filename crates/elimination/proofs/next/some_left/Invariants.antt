use Rattle.std.proofs.Common.{take}
use Rattle.elimination.specs.Projection.{AreAllDone}
use Rattle.elimination.proofs.next.some_left.Given as goal

abbrev pub invariant-loop-clause : goal.invariant-loop-clause
invariant-loop-clause l = AreAllDone l.keep l.marks (take l.clause-index l.clauses)

use Rattle.guard_compiler.proofs.MarkLaws.{AreMarkedTo}
use Rattle.guard_compiler.proofs.marks.mark_all.Given as goal

abbrev pub invariant-loop-clause : goal.invariant-loop-clause
invariant-loop-clause l = AreMarkedTo l.components l.clauses l.initial.marks l.marks l.clause-index

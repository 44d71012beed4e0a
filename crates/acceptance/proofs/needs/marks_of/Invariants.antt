use Rattle.acceptance.proofs.NeededMarks.{AreMarkedTo}
use Rattle.acceptance.proofs.needs.marks_of.Given as goal

abbrev pub invariant-loop-i : goal.invariant-loop-i
invariant-loop-i l = AreMarkedTo l.model l.ways l.component l.i l.marks.items

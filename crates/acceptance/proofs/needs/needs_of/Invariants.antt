use Rattle.acceptance.proofs.NeededMarks.{AreNeedsTo}
use Rattle.acceptance.proofs.needs.needs_of.Given as goal

abbrev pub invariant-loop-c : goal.invariant-loop-c
invariant-loop-c l = AreNeedsTo l.model l.rows l.c

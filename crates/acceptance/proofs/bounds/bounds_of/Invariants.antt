use Rattle.acceptance.proofs.BoundsCausesFirst.{AreAdded}
use Rattle.acceptance.proofs.bounds.bounds_of.Given as goal

abbrev pub invariant-loop-i : goal.invariant-loop-i
invariant-loop-i l = AreAdded l.model l.needs l.order l.bounds.items l.sum l.i

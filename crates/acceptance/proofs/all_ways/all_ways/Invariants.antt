use Rattle.acceptance.proofs.AllWaysFound.{AreWaysTo}
use Rattle.acceptance.proofs.all_ways.all_ways.Given as goal

abbrev pub invariant-loop-i : goal.invariant-loop-i
invariant-loop-i l = AreWaysTo l.model l.all l.i

use Rattle.policy_tables.proofs.FirstCube.{AreRowsTo}
use Rattle.policy_tables.proofs.ways.sorted_ways.Given as goal

abbrev pub invariant-loop-i : goal.invariant-loop-i
invariant-loop-i l = AreRowsTo l.compiled.order l.compiled.ways l.ways l.i

use Rattle.std.proofs.Common.{◌≡◌}
use Rattle.policy_tables.specs.Leaving.{AreWaysTo}
use Rattle.reversibility.specs.ClassParts.{in_row}
use Rattle.policy_tables.proofs.leaving.write_ways.Given as goal

abbrev pub invariant-loop-k : goal.invariant-loop-k
invariant-loop-k l = AreWaysTo l.compiled l.ways (in_row l.rows) l.numbers l.chosen.items l.k × (l.chosen.room ≡ l.fn.chosen.room)

use Rattle.policy_tables.specs.Keeping.{AreKeptTo}
use Rattle.policy_tables.proofs.keeping.flag_kept.Given as goal

abbrev pub invariant-loop-i : goal.invariant-loop-i
invariant-loop-i l = AreKeptTo l.one l.other l.flags l.i

use Rattle.policy_tables.proofs.Written.{AreWritten}
use Rattle.policy_tables.specs.Filling.{HasRoom}
use Rattle.policy_tables.proofs.tables.write_tables.Given as goal

abbrev pub invariant-loop-c : goal.invariant-loop-c
invariant-loop-c l = AreWritten l.classes l.ways l.kept l.tables.items l.c × HasRoom l.work

use Rattle.std.proofs.Common.{All, map}
use Rattle.trajectory_estimator.specs.Asked.{AreValues, entry_of}
use Rattle.conformance_estimate.proofs.windows.records_of.Given as goal

abbrev pub invariant-loop-row : goal.invariant-loop-row
invariant-loop-row l = All (AreValues l.model) (map entry_of l.records)

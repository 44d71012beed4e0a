use Rattle.std.proofs.Common.{◌≡◌, map, take}
use Rattle.trajectory_estimator.specs.Asked.{entry_of}
use Rattle.trajectory_estimator.proofs.record.records_with.Given as goal

abbrev pub invariant-loop-record : goal.invariant-loop-record
invariant-loop-record l = map entry_of l.kept ≡ take l.record-index (map entry_of l.record-items)

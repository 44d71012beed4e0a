use Rattle.trajectory_estimator.proofs.FilledRows.{AreWritten}
use Rattle.trajectory_estimator.proofs.rests.fill_row.Given as goal

abbrev pub invariant-loop-from : goal.invariant-loop-from
invariant-loop-from l = AreWritten l.asked l.at l.from l.fn.room l.room

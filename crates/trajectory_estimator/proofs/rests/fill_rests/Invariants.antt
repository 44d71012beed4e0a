use Rattle.std.proofs.Common.{◌-◌}
use Rattle.trajectory_estimator.specs.Rests.{AreRestsFrom}
use Rattle.trajectory_estimator.proofs.rests.fill_rests.Given as goal

abbrev pub invariant-loop-done : goal.invariant-loop-done
invariant-loop-done l = AreRestsFrom l.asked (l.count - l.done) l.room

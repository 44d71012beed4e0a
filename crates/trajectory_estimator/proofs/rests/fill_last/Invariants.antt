use Rattle.std.proofs.Common.{◌≡◌, length}
use Rattle.trajectory_estimator.proofs.FilledRows.{AreNothing}
use Rattle.trajectory_estimator.proofs.rests.fill_last.Given as goal

abbrev pub invariant-loop-mode : goal.invariant-loop-mode
invariant-loop-mode l = record { full : length l.room ≡ length l.fn.room; last : AreNothing l.count l.mode l.room }

use Rattle.trajectory_estimator.specs.Rests.{KeepsRows}
use Rattle.trajectory_estimator.proofs.heads.clear_row.Given as goal

abbrev pub invariant-loop-mode : goal.invariant-loop-mode
invariant-loop-mode l = KeepsRows l.at l.fn.room l.room

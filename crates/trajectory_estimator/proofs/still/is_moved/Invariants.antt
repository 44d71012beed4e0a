use Rattle.trajectory_estimator.proofs.StillLaws.{Unmoved}
use Rattle.trajectory_estimator.proofs.still.is_moved.Given as goal

abbrev pub invariant-loop-at : goal.invariant-loop-at
invariant-loop-at l = Unmoved l.query l.component l.from l.at

use Rattle.trajectory_estimator.proofs.StillLaws.{AreStillBelow}
use Rattle.trajectory_estimator.proofs.still.still_components.Given as goal

abbrev pub invariant-loop-component : goal.invariant-loop-component
invariant-loop-component l = AreStillBelow l.query l.still l.component

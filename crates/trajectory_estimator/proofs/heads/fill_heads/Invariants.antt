use Rattle.trajectory_estimator.specs.Rests.{AreHeads}
use Rattle.trajectory_estimator.proofs.heads.fill_heads.Given as goal

abbrev pub invariant-loop-at : goal.invariant-loop-at
invariant-loop-at l = AreHeads l.asked l.at l.room

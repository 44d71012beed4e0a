use Rattle.trajectory_estimator.proofs.HeadLaws.{TakesTo}
use Rattle.trajectory_estimator.proofs.heads.take_heads.Given as goal

abbrev pub invariant-loop-to : goal.invariant-loop-to
invariant-loop-to l = TakesTo l.at l.head l.leaving l.ahead l.fn.room l.to l.room

use Rattle.trajectory_estimator.proofs.HeadLaws.{FillsFrom}
use Rattle.trajectory_estimator.proofs.heads.fill_behind.Given as goal

abbrev pub invariant-loop-from : goal.invariant-loop-from
invariant-loop-from l = FillsFrom l.asked l.at l.behind l.fn.room l.from l.room

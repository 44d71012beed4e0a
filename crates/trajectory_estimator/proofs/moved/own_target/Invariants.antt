use Rattle.trajectory_estimator.proofs.OwnMoves.{NoneOf}
use Rattle.trajectory_estimator.proofs.moved.own_target.Given as goal

abbrev pub invariant-loop-number : goal.invariant-loop-number
invariant-loop-number l = NoneOf l.model l.component l.from l.number-items l.number-index

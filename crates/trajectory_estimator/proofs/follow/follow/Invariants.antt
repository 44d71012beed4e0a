use Rattle.trajectory_estimator.proofs.FollowLaws.{IsFollowing}
use Rattle.trajectory_estimator.proofs.follow.follow.Given as goal

abbrev pub invariant-loop-at : goal.invariant-loop-at
invariant-loop-at l = IsFollowing l.asked l.at l.mode l.cost l.fn.columns l.columns

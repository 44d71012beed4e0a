use Rattle.std.proofs.Common.{◌≡◌, All, None, take}
use Rattle.trajectory_estimator.proofs.still.some_failure.Given as goal

abbrev pub invariant-loop-failure : goal.invariant-loop-failure
invariant-loop-failure l = All (λ o. o ≡ None) (take l.failure-index l.failures)

use Rattle.std.proofs.Common.{ℕ}
use Rattle.trajectory_estimator.specs.Asked.{Asked}
use Rattle.trajectory_estimator.specs.Steps.{IsLeastOf, IsLeaving}
use Rattle.trajectory_estimator.proofs.LeastSteps.{IsStepBelow}
use Rattle.trajectory_estimator.proofs.step.least_step.Given as goal

abbrev pub invariant-loop-to : goal.invariant-loop-to
invariant-loop-to l = (q : Asked) (c at : ℕ) → IsLeaving q c at l.leaving → IsLeastOf (IsStepBelow q c at l.leaving.from l.ahead l.to) l.least

use Rattle.std.proofs.Common.{refl, sym, subst}
use Rattle.trajectory_estimator.specs.Steps.{IsLeastOf, IsStepTo}
use Rattle.trajectory_estimator.proofs.step.step_to.Goals as goal

pub returns-in_err-of : goal.returns-in_err-of
returns-in_err-of c = λ q n at h. subst (IsLeastOf (IsStepTo q n at c.args.leaving.now.from c.args.ahead.now c.args.to)) (sym c.from_residual.ensures) (c.in_err-of.ensures.none refl q n at)

pub returns : goal.returns
returns c = λ q n at h. c.least.ensures q n at c.args.leaving.now.from c.args.to c.args.ahead.now (c.in_ok-of.ensures.some q n at h)

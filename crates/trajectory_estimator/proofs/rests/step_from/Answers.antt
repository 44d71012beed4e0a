use Rattle.std.proofs.Common.{subst, arith}
use Rattle.cca_base.proofs.NextModes.{few_modes}
use Rattle.trajectory_estimator.specs.Steps.{IsLeastOf, IsStep}
use Rattle.trajectory_estimator.proofs.RestLaws.{least_alike}
use Rattle.trajectory_estimator.proofs.rests.step_from.Goals as goal

pub least_step-requires-clause-few : goal.least_step-requires-clause-few
least_step-requires-clause-few c =
    let x = c.args.asked.now in
    let leaving = c.of-leaving.ensures.leaving in
    omega (arith, leaving.full, few_modes x.query.now.model leaving.model x.component x.within)

pub returns : goal.returns
returns c =
    let x = c.args.asked.now in
    least_alike x c.args.at c.args.behind.now c.args.from c.ahead.result c.least_step.result c.ahead.ensures
    (subst (λ from. IsLeastOf (IsStep x.query.now x.component c.args.at from c.ahead.result) c.least_step.result) c.of-leaving.ensures.from
    (c.least_step.ensures x.query.now x.component c.args.at c.of-leaving.ensures.leaving))

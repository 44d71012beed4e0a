use Rattle.std.proofs.Common.{List, subst}
use Rattle.cca_base.specs.declared.cube.Pair.{Pair}
use Rattle.mode_estimator.specs.Estimated.{IsEstimate}
use Rattle.mode_estimator.specs.declared.answer.Estimate.TheVariants.{Unexplained}
use Rattle.mode_estimator.proofs.least.estimate_by.Goals as goal

pub returns-in-None-clause-estimate : goal.returns-in-None-clause-estimate
returns-in-None-clause-estimate c =
    subst (λ (seen : List Pair). IsEstimate c.args.compiled.now.model c.args.state.now.modes c.args.command seen Unexplained) c.as_slice-pairs.ensures c.in-None.ensures.estimate

use Rattle.std.proofs.Common.{rules, sym, ◌∙◌}
use Rattle.trajectory_estimator.proofs.StillLaws.{none_more, none_all}
use Rattle.trajectory_estimator.proofs.still.some_failure.Goals as goal

pub loop-failure-init : goal.loop-failure-init
loop-failure-init c = search rules

pub loop-failure-preserved : goal.loop-failure-preserved
loop-failure-preserved c =
    none_more c.args.failures.now c.loop-failure.failure-index c.loop-failure-test.true (sym c.is_some.ensures ∙ c.if-is_some.false) c.loop-failure.invariant

pub returns : goal.returns
returns c = λ e. none_all c.args.failures.now c.loop-failure.failure-index c.loop-failure-test.false c.loop-failure.invariant

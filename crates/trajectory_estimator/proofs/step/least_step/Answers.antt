use Rattle.trajectory_estimator.proofs.LeastSteps.{below_none, below_more, below_all}
use Rattle.trajectory_estimator.proofs.step.least_step.Goals as goal

pub loop-to-init : goal.loop-to-init
loop-to-init c = λ q n at h. below_none q n at c.args.leaving.now.from c.args.ahead.now

pub loop-to-preserved : goal.loop-to-preserved
loop-to-preserved c = λ q n at h.
    below_more q n at c.args.leaving.now.from c.args.ahead.now c.loop-to.to c.loop-to.least c.step_to.result c.lesser-least.result (c.loop-to.invariant q n at h) (c.step_to.ensures q n at h)
    c.lesser-least.ensures.none c.lesser-least.ensures.one c.lesser-least.ensures.least

pub returns : goal.returns
returns c = λ q n at h. below_all q n at c.args.leaving.now c.args.ahead.now c.loop-to.to c.loop-to.least h c.loop-to-test.false (c.loop-to.invariant q n at h)

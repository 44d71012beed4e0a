use Rattle.trajectory_estimator.proofs.LeastSteps.{beside_none, by_all, by_either}
use Rattle.trajectory_estimator.proofs.step.Reach.least.Goals as goal

pub returns-in-Some : goal.returns-in-Some
returns-in-Some c = λ q n at from to ahead h. by_either q n at from ahead to c.in-Some.step h.model (c.in-Some.ensures q n at from to ahead h)

pub returns : goal.returns
returns c = λ q n at from to ahead h.
    let ajar = c.by-2 in
    let shut = c.by-3 in
    by_all q n at from ahead to ajar.result shut.result c.lesser.result
    (beside_none q n at from ahead to ajar.result (c.in_default.ensures q n at from to ahead h) (ajar.ensures q n at from to ahead h))
    (shut.ensures q n at from to ahead h) c.lesser.ensures.none c.lesser.ensures.one c.lesser.ensures.least

use Rattle.trajectory_estimator.proofs.RestLaws.{total_cheap}
use Rattle.trajectory_estimator.proofs.rests.total_from.Goals as goal

pub returns-clause-cheap : goal.returns-clause-cheap
returns-clause-cheap c = λ most cheap.
    total_cheap c.args.asked.now c.args.at c.args.behind.now c.args.from c.in_ok-step.step most c.records.ensures.asked.model c.requires.mode c.in_ok-step.ensures cheap

use Rattle.std.proofs.Common.{sym, ◌∙◌}
use Rattle.trajectory_estimator.proofs.PriceLaws.{takes_dearer}
use Rattle.trajectory_estimator.proofs.prices.Passed.take_by.Goals as goal

pub returns-in-Some-clause-taken : goal.returns-in-Some-clause-taken
returns-in-Some-clause-taken c = λ q n at from to ahead h s step.
    let least = c.in-Some.ensures q n at from to ahead h in
    takes_dearer c.args.head c.in-Some.step s c.take.new.self (least.0.0.1 ∙ sym step.0.1) (least.0.1 ∙ sym step.1) (least.1 s step) c.take.ensures.taken

pub returns-in_default-clause-taken : goal.returns-in_default-clause-taken
returns-in_default-clause-taken c = λ q n at from to ahead h s step. absurd (c.in_default.ensures q n at from to ahead h s step)

use Rattle.std.proofs.Common.{refl, inl, inr}
use Rattle.trajectory_estimator.proofs.PriceLaws.{three_gates}
use Rattle.trajectory_estimator.proofs.prices.Passed.take_to.Goals as goal

pub returns-clause-taken : goal.returns-clause-taken
returns-clause-taken c = λ q n at is s step.
    let head = c.args.head in
    let from = c.args.leaving.now.from in
    let ahead = c.args.ahead.now in
    let reach = c.in-Some.ensures.some q n at is in
    elim (three_gates s.gate step.0.costs.small) [
      | inl either ↦ c.take_by-3.ensures.kept.taken head s (c.take_by-2.ensures.kept.taken head s (c.take_by.ensures.taken q n at from c.args.to ahead reach s (step, either)))
      | inr (inl opened) ↦ c.take_by-3.ensures.kept.taken head s (c.take_by-2.ensures.taken q n at from c.args.to ahead reach s (step, opened))
      | inr (inr shut) ↦ c.take_by-3.ensures.taken q n at from c.args.to ahead reach s (step, shut)
    ]

pub returns-in_default-clause-taken : goal.returns-in_default-clause-taken
returns-in_default-clause-taken c = λ q n at is s step. absurd (c.in_default.ensures.none refl q n at s step)

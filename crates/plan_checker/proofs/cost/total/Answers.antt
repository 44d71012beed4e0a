use Rattle.std.proofs.Common.{◌≡◌, ◌<◌, ℕ, length, ap, arith}
use Rattle.cca_base.specs.Successors.{ChangeCosts}
use Rattle.plan_checker.proofs.CostSums.{no_total, sum_more, along}
use Rattle.plan_checker.proofs.cost.total.Goals as goal

pub returns-in-None : goal.returns-in-None
returns-in-None c =
    let full : length c.args.to.now.modes ≡ length c.args.model.now.components = c.requires.to.full in
    let within : c.loop-at.at < length c.args.to.now.modes = omega (arith, full, c.loop-at-test.true, c.len-at-end.ensures, ap length c.components.ensures.value) in
    no_total c.args.model.now c.args.from.now.modes c.args.nominal.now.modes c.args.to.now.modes c.loop-at.at within
    (along (λ a b d. (cost : ℕ) → ChangeCosts c.args.model.now c.loop-at.at a b d cost → ⊥)
    c.args.from.now.modes c.args.nominal.now.modes c.args.to.now.modes c.loop-at.at _ _ _ c.get-from.ensures.value c.get-nominal.ensures.value c.get.ensures.value c.in-None.ensures)

pub loop-at-preserved : goal.loop-at-preserved
loop-at-preserved c =
    sum_more c.args.model.now c.components.ensures.well_formed c.args.from.now.modes c.args.nominal.now.modes c.args.to.now.modes c.loop-at.at c.loop-at.sum c.in-Some.cost c.loop-at.invariant
    (along (λ a b d. ChangeCosts c.args.model.now c.loop-at.at a b d c.in-Some.cost)
    c.args.from.now.modes c.args.nominal.now.modes c.args.to.now.modes c.loop-at.at _ _ _ c.get-from.ensures.value c.get-nominal.ensures.value c.get.ensures.value c.in-Some.ensures)

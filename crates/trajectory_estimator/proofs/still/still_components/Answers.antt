use Rattle.std.proofs.Common.{◌≡◌, ◌+◌, length, ap, sym, subst, ◌∙◌, arith}
use Rattle.cca_base.specs.PlantModel.{PlantModel}
use Rattle.trajectory_estimator.proofs.StillLaws.{AreStillBelow, still_none, still_more, still_all}
use Rattle.trajectory_estimator.proofs.still.still_components.Goals as goal

pub loop-component-init : goal.loop-component-init
loop-component-init c = still_none c.args.query.now c.new-still.result c.new-still.ensures

pub loop-component-preserved : goal.loop-component-preserved
loop-component-preserved c =
    subst (λ l. AreStillBelow c.args.query.now l (c.loop-component.component + 1)) (sym c.in_ok-push.ensures.ok)
    (still_more c.args.query.now c.loop-component.still c.loop-component.component c.is_still.result c.is_still.ensures c.loop-component.invariant)

pub returns : goal.returns
returns c =
    let count : length c.components.result.now ≡ length c.args.query.now.model.components = ap length c.components.ensures.value ∙ ap (λ (m : PlantModel). length m.components) c.model.ensures.value in
    let all : c.loop-component.component ≡ length c.args.query.now.model.components = omega (arith, c.loop-component-test.false, c.loop-component.auto.component-end, c.len-component-end.ensures, count) in
    still_all c.args.query.now c.loop-component.still c.loop-component.component all c.loop-component.invariant

use Rattle.std.proofs.Common.{length, sym, ap, subst, ◌∙◌, arith}
use Rattle.cca_base.specs.PlantModel.{PlantModel}
use Rattle.cca_base.specs.State.{IsState}
use Rattle.cca_base.proofs.StartLaws.{start_state, starts_more, starts_all}
use Rattle.successors.proofs.plant.Plant.open.Goals as goal

pub loop-component-preserved : goal.loop-component-preserved
loop-component-preserved c =
    let m = c.args.compiled.now.model in
    let items = c.as_slice-component-items.ensures ∙ c.components.ensures.value ∙ ap (λ (x : PlantModel). x.components) c.model.ensures.value in
    c.in_ok-push.ensures.ok
    ∙ starts_more m.components c.loop-component.component-index c.loop-component.modes c.component-item.result
    (omega (arith, c.loop-component-test.true, ap length items)) (rw items at c.component-item.is) c.loop-component.invariant

pub returns-clause-starts : goal.returns-clause-starts
returns-clause-starts c =
    let items = c.as_slice-component-items.ensures ∙ c.components.ensures.value ∙ ap (λ (x : PlantModel). x.components) c.model.ensures.value in
    starts_all c.args.compiled.now.model c.loop-component.modes c.loop-component.component-index (omega (arith, c.loop-component-test.false, ap length items)) c.loop-component.invariant

pub returns-clause-fits : goal.returns-clause-fits
returns-clause-fits c =
    subst (IsState c.args.compiled.now.model) (sym (returns-clause-starts c)) (start_state c.args.compiled.now.model c.model.ensures.compiled.accepted.well_formed)

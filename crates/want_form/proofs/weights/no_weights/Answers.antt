use Rattle.std.proofs.Common.{◌≡◌, map, sym, ap, subst, ◌∙◌, arith}
use Rattle.std.proofs.lemmas.List.{take_all}
use Rattle.goal_interpreter.specs.Weights.{AreWeights}
use Rattle.want_form.proofs.WeightsSet.{no_weights_fit, zeros}
use Rattle.want_form.proofs.weights.no_weights.Goals as goal

pub returns-clause-weights : goal.returns-clause-weights
returns-clause-weights c =
    let items : c.as_slice-component-items.result.now ≡ c.args.model.now.components = c.as_slice-component-items.ensures ∙ c.components.ensures.value in
    let all = take_all c.loop-component.component-index c.as_slice-component-items.result.now (omega (arith, c.loop-component-test.false)) in
    subst (AreWeights c.args.model.now) (sym (c.loop-component.invariant ∙ ap (map zeros) (all ∙ items))) (no_weights_fit c.args.model.now)

use Rattle.std.proofs.Common.{sym, subst}
use Rattle.cca_base.specs.Model.{HasMode}
use Rattle.want_form.proofs.WeightsSet.{weights_after}
use Rattle.want_form.specs.WishMachine.{WishState}
use Rattle.want_form.proofs.wishing.Wishing.weigh.Goals as goal

pub invariant_of-self : goal.invariant_of-self
invariant_of-self c =
    let m = c.self.inside.compiled.value.model in
    let has : HasMode m c.args.pair.item c.args.pair.value = subst (λ (x : WishState). HasMode x.compiled.model c.args.pair.item c.args.pair.value) (sym c.self.view_is) c.requires.pair in
    let kept = weights_after m c.self.inside.weights.rows c.self.invariant.2 c.args.pair has c.set_weight.result c.args.weight c.set_weight.new.weights.rows c.requires.small c.set_weight.ensures.ok c.set_weight.ensures.err in
    (c.self.invariant.0, c.self.invariant.1, kept, c.self.invariant.3)

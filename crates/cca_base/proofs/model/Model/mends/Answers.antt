use Rattle.std.proofs.Common.{◌≡◌, ◌<◌, length, ◌∙◌, eq-eqb, eqb-true, zero, suc, eqb, true, arith}
use Rattle.cca_base.specs.Model.{IsInChain}
use Rattle.cca_base.proofs.NextModes.{next_broken, broken_within}
use Rattle.cca_base.proofs.model.Model.mends.Goals as goal

pub returns-then-component-len : goal.returns-then-component-len
returns-then-component-len c = (λ t. (0, eqb-true c.args.mode c.args.other t), back)
  where
    back : IsInChain c.args.self.now.moves c.args.component c.args.mode c.args.other → eqb c.args.mode c.args.other ≡ true
    back (zero, e) = eq-eqb c.args.mode c.args.other e
    back (suc n, p) =
        let broken = next_broken c.args.self.now.moves c.args.component c.args.mode p.0 p.1 in
        let within : c.args.component < length c.args.self.now.components = broken_within c.args.self.now c.components.ensures.well_formed c.args.component c.args.mode broken in
        let same : c.len.result ≡ length c.args.self.now.components = c.len.ensures ∙ (λ i. length (c.components.ensures.value i)) in
        absurd (omega (arith, within, same, c.if-component-len.true))

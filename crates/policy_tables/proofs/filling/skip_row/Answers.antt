use Rattle.std.proofs.Common.{◌≡◌, ◌+◌, ◌*◌, ◌∙◌, slice_index, slice_set, refl, ap, arith}
use Rattle.cca_base.specs.Model.{mode_counts}
use Rattle.reversibility.specs.ClassParts.{ClassParts}
use Rattle.policy_tables.specs.declared.code.Code.TheVariants as code
use Rattle.policy_tables.proofs.Filled.{modes_read, right_set}
use Rattle.policy_tables.proofs.filling.skip_row.Goals as goal

pub loop-to-preserved : goal.loop-to-preserved
loop-to-preserved c =
    let p : ClassParts = c.args.classes.now in
    let counted : c.len-modes.result ≡ slice_index (mode_counts p.compiled.model) c.args.component = modes_read p.compiled.model c.args.component
    (c.components-components.ensures.value ∙ ap (λ z. z.components) (c.model.ensures.value ∙ ap (λ z. z.model) c.compiled.ensures.value)) c.get.ensures.value c.len-modes.ensures in
    right_set p c.args.ways.now c.args.component (slice_index (mode_counts p.compiled.model) c.args.component) c.loop-to.codes c.set.new.self c.args.from c.loop-to.to code.Never
    (c.set.ensures ∙ ap (λ n. slice_set c.loop-to.codes (c.args.from * n + c.loop-to.to) code.Never) counted) c.requires.from (omega (arith, c.loop-to-test.true, counted))
    c.loop-to.invariant (record { policy = λ stands. absurd (c.requires.stands stands); outside = λ _. refl }) tt

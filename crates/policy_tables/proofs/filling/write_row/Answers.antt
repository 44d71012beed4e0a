use Rattle.std.proofs.Common.{◌≡◌, ◌+◌, ◌*◌, ◌∙◌, slice_index, slice_set, ap, arith}
use Rattle.cca_base.specs.Model.{mode_counts}
use Rattle.reversibility.specs.ClassParts.{ClassParts}
use Rattle.policy_tables.specs.declared.leaving.Leaving.{Leaving}
use Rattle.policy_tables.proofs.Filled.{modes_read, right_set}
use Rattle.policy_tables.proofs.filling.write_row.Goals as goal

pub loop-to-preserved : goal.loop-to-preserved
loop-to-preserved c =
    let p : ClassParts = c.args.classes.now in
    let l : Leaving = c.args.work.now.leaving in
    let counted : c.len-modes.result ≡ slice_index (mode_counts p.compiled.model) l.component = modes_read p.compiled.model l.component
    (c.components-components.ensures.value ∙ ap (λ z. z.components) (c.model.ensures.value ∙ ap (λ z. z.model) c.compiled.ensures.value)) c.get.ensures.value c.len-modes.ensures in
    right_set p c.args.ways.now l.component (slice_index (mode_counts p.compiled.model) l.component) c.loop-to.codes c.set.new.self l.mode c.loop-to.to c.code-code.result
    (c.set.ensures ∙ ap (λ n. slice_set c.loop-to.codes (l.mode * n + c.loop-to.to) c.code-code.result) counted) c.requires.from (omega (arith, c.loop-to-test.true, counted))
    c.loop-to.invariant (record { policy = λ _. c.code-code.ensures.cell; outside = λ none. absurd (none c.requires.stands) }) c.code-code.ensures.code

use Rattle.std.proofs.Common.{◌≡◌, ◌++◌, Some, ap, subst, ◌∙◌}
use Rattle.std.specs.Prelude.{OnOk}
use Rattle.cca_base.specs.Accepted.{CompiledModel}
use Rattle.cca_base.specs.PlantModel.{PlantModel}
use Rattle.cca_base.specs.Plans.{Promising}
use Rattle.cca_base.specs.declared.events.Event.TheVariants.{Tick}
use Rattle.executive_loop.specs.Borrowed.{report_with}
use Rattle.trace_laws.specs.Events.{Acts}
use Rattle.program_form.specs.Printed.{told_text}
use Rattle.program_form.proofs.MadeEvents.{tick_made}
use Rattle.program_form.proofs.sequenced.make_tick.Goals as goal

pub returns-clause-makes : goal.returns-clause-makes
returns-clause-makes c =
    let x = c.args.executive.now in
    let z = c.prepare-ended.new.executive in
    let y = c.tick-made.new.executive in
    let report = report_with y.state.estimate c.tick-made.result in
    let ended = c.prepare-ended.result in
    let acts = subst (λ (b : CompiledModel). Acts b (Promising b) z.state Tick y.state (Some report)) c.prepare-ended.ensures.compiled c.tick-made.ensures.acts in
    let model : c.model-model.result.now ≡ x.compiled.model = c.model-model.ensures.value ∙ ap (λ (b : CompiledModel). b.model) (c.compiled.ensures.value ∙ c.tick-made.ensures.compiled ∙ c.prepare-ended.ensures.compiled) in
    let said = subst (λ e. OnOk c.tell.result (c.tell.new.out.bytes ≡ c.args.out.now.bytes ++ told_text c.model-model.result.now (record { report = report_with e c.tick-made.result; ended = ended }))) c.estimate.ensures c.tell.ensures.pushes.ok in
    let text = subst (λ (m : PlantModel). OnOk c.tell.result (c.tell.new.out.bytes ≡ c.args.out.now.bytes ++ told_text m (record { report = report; ended = ended }))) model said in
    tick_made x.compiled x.state z.state y.state c.args.running.now.runner c.prepare-ended.new.running.runner ended report c.tell.result c.args.out.now c.tell.new.out c.prepare-ended.ensures.puts acts text

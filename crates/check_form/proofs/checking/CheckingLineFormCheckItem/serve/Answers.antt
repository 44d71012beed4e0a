use Rattle.std.proofs.Common.{List, ℕ, sym, ap, subst, ◌∙◌}
use Rattle.std.specs.Prelude.{IfOk}
use Rattle.cca_base.specs.Accepted.{CompiledModel}
use Rattle.byte_buffer.specs.Outs.{Appended}
use Rattle.check_form.specs.CheckStages.{SaysOf, part_state, script_of, trace_of}
use Rattle.check_form.specs.CheckTrace.{TraceLeads}
use Rattle.check_form.proofs.CheckSteps.{begins_trace, judges_line, keeps_event}
use Rattle.check_form.proofs.checking.CheckingLineFormCheckItem.serve.Goals as goal

pub returns-in_ok-keep-in-Keeps-clause-serves : goal.returns-in_ok-keep-in-Keeps-clause-serves
returns-in_ok-keep-in-Keeps-clause-serves c =
    let b = c.self.inside.accepted in
    keeps_event b c.args.self.now c.args.item.now (script_of c.in-Script.script) (script_of c.keep.new.self) c.in-Keeps.event c.args.out.now (sym (ap (part_state b) c.in-Script.is) ∙ c.self.view_is) (sym c.replace-item.ensures.value ∙ c.in-Keeps.is) c.in_ok-keep-in-Keeps.ensures.event

pub returns-in_ok-trace-in-Trace-item-clause-serves : goal.returns-in_ok-trace-in-Trace-item-clause-serves
returns-in_ok-trace-in-Trace-item-clause-serves c =
    let b = c.self.inside.accepted in
    let own = c.model-model.ensures.value ∙ ap (λ (k : CompiledModel). k.model) c.compiled.ensures in
    begins_trace b c.args.self.now c.args.item.now (script_of c.in-Script.script) c.model-model.result.now c.replace-read.result.events.items (trace_of c.in_ok-trace-in-Trace-item.trace) c.args.out.now (sym (ap (part_state b) c.in-Script.is) ∙ c.self.view_is) (sym c.replace-item.ensures.value ∙ c.in-Trace-item.is) own
    (ap (λ r. (script_of r).events) c.replace-read.ensures.value) c.in_ok-trace-in-Trace-item.ensures.comes

pub returns-in-Judges-item-clause-serves : goal.returns-in-Judges-item-clause-serves
returns-in-Judges-item-clause-serves c =
    let b = c.self.inside.accepted in
    let own = c.model-model.ensures.value ∙ ap (λ (k : CompiledModel). k.model) c.compiled.ensures in
    let x = trace_of c.in-Trace.trace in
    let y = trace_of c.line.new.self in
    let says = subst (λ (l : List ℕ). IfOk c.line.result (λ end. Appended (SaysOf (TraceLeads c.model-model.result.now x l) x y end) c.args.out.now c.line.new.out)) c.as_slice.ensures c.line.ensures.says in
    judges_line b c.args.self.now c.args.item.now x y c.model-model.result.now c.in-Judges-item.bytes (sym (ap (part_state b) c.in-Trace.is) ∙ c.self.view_is) (sym c.replace-item.ensures.value ∙ c.in-Judges-item.is) own c.args.out.now c.line.new.out c.line.result says

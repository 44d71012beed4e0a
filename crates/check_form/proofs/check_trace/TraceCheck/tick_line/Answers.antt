use Rattle.std.proofs.Common.{refl}
use Rattle.check_form.specs.CheckStages.{trace_of, waiting}
use Rattle.check_form.specs.CheckTrace.{TraceLeads}
use Rattle.check_form.specs.TickLines.{printed_of}
use Rattle.check_form.proofs.CheckLines.{says_no, says_nothing, not_a_line, not_next, more_next, whole_next}
use Rattle.check_form.proofs.check_trace.TraceCheck.tick_line.Goals as goal

pub returns-in_default-clause-says : goal.returns-in_default-clause-says
returns-in_default-clause-says c =
    let x = waiting c.args.self.now c.args.events.items in
    says_no (TraceLeads c.args.model.now x c.args.line.now) x _ c.ticks-ticks.result _ c.args.out.now c.say_no.new.out
    (not_a_line c.args.model.now x c.args.line.now c.args.events.items c.in_ok-value.field-0 c.in_ok-value.ensures c.in_default.is) c.ticks-ticks.ensures c.in_ok-say_no.ensures.ok

pub returns-in_ok-say_no-in-NotNext-clause-says : goal.returns-in_ok-say_no-in-NotNext-clause-says
returns-in_ok-say_no-in-NotNext-clause-says c =
    let x = waiting c.args.self.now c.args.events.items in
    says_no (TraceLeads c.args.model.now x c.args.line.now) x _ c.ticks-ticks.result _ c.args.out.now c.say_no-in-NotNext.new.out
    (not_next c.args.model.now x c.args.line.now c.args.events.items c.in_ok-value.field-0 c.in_ok-value.ensures c.in-Some.value c.in-Some.is c.ticks-ticks.result c.replace-lines.result c.ticks-ticks.ensures c.replace-lines.ensures.value c.in-NotNext.ensures)
    c.ticks-ticks.ensures c.in_ok-say_no-in-NotNext.ensures.ok

pub returns-in-More-clause-says : goal.returns-in-More-clause-says
returns-in-More-clause-says c =
    let x = waiting c.args.self.now c.args.events.items in
    let leads = more_next c.args.model.now x c.args.line.now c.args.events.items c.in_ok-value.field-0 c.in_ok-value.ensures c.in-Some.value c.in-Some.is c.ticks-ticks.result c.replace-lines.result c.ticks-ticks.ensures c.replace-lines.ensures.value c.in-More.lines c.in-More.ensures in
    says_nothing (TraceLeads c.args.model.now x c.args.line.now) x _ c.args.out.now leads

pub returns-in-Whole-clause-says : goal.returns-in-Whole-clause-says
returns-in-Whole-clause-says c =
    let x = waiting c.args.self.now c.args.events.items in
    whole_next c.args.model.now x c.args.line.now c.args.events.items c.in_ok-value.field-0 c.in_ok-value.ensures c.in-Some.value c.in-Some.is c.ticks-ticks.result c.replace-lines.result c.ticks-ticks.ensures c.replace-lines.ensures.value
    (printed_of c.in-Whole.tick) _ (trace_of c.judge.new.self) refl c.judge.result c.args.out.now c.judge.new.out c.in-Whole.ensures c.judge.ensures.says

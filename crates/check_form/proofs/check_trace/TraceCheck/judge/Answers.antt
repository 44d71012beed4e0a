use Rattle.check_form.specs.CheckStages.{trace_of, waiting}
use Rattle.check_form.specs.CheckTrace.{ByLines}
use Rattle.check_form.specs.TickLines.{Whole, printed_of}
use Rattle.check_form.proofs.CheckLines.{yes_leads, no_leads, says_no, says_nothing}
use Rattle.check_form.proofs.check_trace.TraceCheck.judge.Goals as goal

pub returns-in_ok-go_on-in-Yes-clause-says : goal.returns-in_ok-go_on-in-Yes-clause-says
returns-in_ok-go_on-in-Yes-clause-says c =
    let x = waiting c.args.self.now c.args.events.items in
    let next = trace_of c.go_on.new.self in
    let by = yes_leads c.args.model.now x c.args.tick.now _ _ c.as_ref.ensures.value c.as_ref-2.ensures.value c.in_ok-verdict.verdict c.check_tick_by.new.self c.args.events.items next c.in-Yes.is
    c.in_ok-verdict.ensures.verdict c.in_ok-verdict.ensures.successor c.in_ok-verdict.ensures.takes c.in_ok-go_on-in-Yes.ensures.comes in
    says_nothing (ByLines (Whole (printed_of c.args.tick.now)) c.args.model.now x c.args.events.items) x next c.args.out.now by

pub returns-in_ok-say_no-in-No-clause-says : goal.returns-in_ok-say_no-in-No-clause-says
returns-in_ok-say_no-in-No-clause-says c =
    let x = waiting c.args.self.now c.args.events.items in
    says_no (ByLines (Whole (printed_of c.args.tick.now)) c.args.model.now x c.args.events.items) x _ c.ticks-ticks.result c.in-No.reason c.args.out.now c.say_no.new.out
    (no_leads c.args.model.now x c.args.tick.now _ _ c.as_ref.ensures.value c.as_ref-2.ensures.value c.in_ok-verdict.verdict c.in-No.reason c.args.events.items c.in-No.is c.in_ok-verdict.ensures.verdict) c.ticks-ticks.ensures c.in_ok-say_no-in-No.ensures.ok

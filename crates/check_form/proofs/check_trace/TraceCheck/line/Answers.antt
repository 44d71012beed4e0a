use Rattle.std.proofs.Common.{sym, ap, ◌∙◌}
use Rattle.std.specs.Option.{option_map}
use Rattle.check_form.specs.CheckStages.{trace_of}
use Rattle.check_form.specs.CheckTrace.{TraceLeads}
use Rattle.check_form.proofs.CheckLines.{says_no, line_says, none_behind}
use Rattle.check_form.proofs.check_trace.TraceCheck.line.Goals as goal

pub returns-in-Some-clause-says : goal.returns-in-Some-clause-says
returns-in-Some-clause-says c =
    line_says c.args.model.now c.args.self.now.checker c.args.self.now.lines (option_map (λ q. q.items) c.args.self.now.behind) (trace_of c.tick_line.new.self) c.args.line.now c.in-Some.events.items c.tick_line.result c.args.out.now c.tick_line.new.out
    (ap (option_map (λ q. q.items)) (sym c.replace.ensures.value ∙ c.in-Some.is)) c.tick_line.ensures.says

pub returns-in_ok-say_no-in-None-clause-says : goal.returns-in_ok-say_no-in-None-clause-says
returns-in_ok-say_no-in-None-clause-says c =
    let x = trace_of c.args.self.now in
    says_no (TraceLeads c.args.model.now x c.args.line.now) x _ c.ticks.result _ c.args.out.now c.say_no.new.out (none_behind c.args.model.now x c.args.line.now (ap (option_map (λ q. q.items)) (sym c.replace.ensures.value ∙ c.in-None.is))) c.ticks.ensures c.in_ok-say_no-in-None.ensures.ok

-- The reports of the first events are the first reports.
use Rattle.std.proofs.Common.{◌≡◌, ◌++◌, ap, ◌∙◌}
use Rattle.cca_base.specs.Choice.{IsChosenReply}
use Rattle.cca_base.specs.Trace.{start}
use Rattle.cca_laws.proofs.OneTrace.{one_fixed_trace}
use Rattle.trace_laws.specs.Laws.{TracesBegin}
use Rattle.trace_laws.proofs.EventsJoin.{made_is_trace, trace_is_made, made_in_two, AreMadeInTwo}

pub traces_begin : TracesBegin
traces_begin b events more y reports others compiled made trace =
    let whole = trace_is_made b (IsChosenReply b) (events ++ more) others trace in
    let h : AreMadeInTwo b (IsChosenReply b) (start b.model 0) events more others = made_in_two b (IsChosenReply b) events more (start b.model 0) whole.0 others whole.1 in
    let same : h.first ≡ reports =
    one_fixed_trace b events h.first reports compiled (made_is_trace b (IsChosenReply b) events h.middle h.first h.made_first) (made_is_trace b (IsChosenReply b) events y reports made) in
    (h.rest, h.split ∙ ap (λ l. l ++ h.rest) same)

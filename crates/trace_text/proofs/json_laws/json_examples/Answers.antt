use Rattle.trace_text.proofs.JsonExamples.{reports_are_computed, refusals_are_computed}
use Rattle.trace_text.proofs.json_laws.json_examples.Goals as goal

pub returns : goal.returns
returns c =
    let reports = reports_are_computed in
    let refusals = refusals_are_computed in
    record { sends = reports.0; unreachable = reports.1; holding = reports.2; order = reports.3; no_detail = refusals.0; clash = refusals.1 }

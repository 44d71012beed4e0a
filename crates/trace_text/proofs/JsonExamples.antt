-- Lines of JSON are computed.
use Rattle.std.proofs.Common.{refl}
use Rattle.std.specs.Fmt.{digits}
use Rattle.serde_json.proofs.OnLiterals.{serde_json_on_literals}
use Rattle.trace_text.specs.Json.{modes_object, report_object, bare_detail, refusal_object, json_line}
use Rattle.trace_text.specs.JsonExamples.{ValveSends, ValveIsUnreachable, HoldingIsShort, TenBeforeTwo, EndsAtOnce, ClashNamesPairs}

pub reports_are_computed : ValveSends × ValveIsUnreachable × HoldingIsShort × TenBeforeTwo
unfolding digits serde_json_on_literals modes_object report_object json_line
reports_are_computed = (refl, refl, refl, refl)

pub refusals_are_computed : EndsAtOnce × ClashNamesPairs
unfolding digits serde_json_on_literals bare_detail refusal_object json_line
refusals_are_computed = (refl, refl)

-- Lines of traces are computed.
use Rattle.std.proofs.Common.{refl}
use Rattle.std.specs.Fmt.{digits}
use Rattle.trace_text.specs.Reports.{report_line}
use Rattle.trace_text.specs.ProofLines.{world_line, route_text}
use Rattle.trace_text.specs.LineExamples.{TickOfValve, WorldOfValve, RouteOfValve, LongStandsAlone, LongStandsWithOthers}

pub tick_of_valve : TickOfValve
unfolding digits report_line
tick_of_valve = refl

pub world_of_valve : WorldOfValve
unfolding world_line
world_of_valve = refl

pub route_of_valve : RouteOfValve
unfolding route_text
route_of_valve = refl

pub long_stands_alone : LongStandsAlone
long_stands_alone = (refl, refl)

pub long_stands_with_others : LongStandsWithOthers
long_stands_with_others = refl

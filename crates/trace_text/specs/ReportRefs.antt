-- A borrowed report as a report, and how much room the line of any report of a model needs.
use Rattle.std.specs.Prelude.{ℕ, ◌+◌, ◌*◌, ◌<◌, ◌^◌, length}
use Rattle.cca_base.specs.PlantModel.{PlantModel}
use Rattle.cca_base.specs.declared.events.Shown.{Shown}
use Rattle.cca_base.specs.declared.events.Shown.TheVariants as shown
use Rattle.cca_base.specs.declared.events.TickReport.{TickReport}
use Rattle.trace_text.specs.declared.report_ref.ReportRef.{ReportRef}
use Rattle.trace_text.specs.declared.report_ref.ShownRef.{ShownRef}
use Rattle.trace_text.specs.declared.report_ref.ShownRef.TheVariants.{Estimated, Unexplained, Holding}

-- what is shown, where the estimate is read
abbrev pub shown_read : ShownRef → Shown
shown_read (Estimated cost state reply) = shown.Estimated cost state.now reply
shown_read Unexplained = shown.Unexplained
shown_read Holding = shown.Holding

-- the report, where the estimate is read
abbrev pub report_read : ReportRef → TickReport
report_read r = record { tick = r.tick; shown = shown_read r.shown }

-- the cost has 64 bits
abbrev pub HasSmallCost : Shown → Type 0
HasSmallCost (shown.Estimated cost state reply) = cost < 2 ^ 64
HasSmallCost shown.Unexplained = Unit {0}
HasSmallCost shown.Holding = Unit {0}

-- the tick's number and the cost have 64 bits
abbrev pub HasSmallNumbers : TickReport → Type 0
HasSmallNumbers r = (r.tick < 2 ^ 64) × HasSmallCost r.shown

-- how many bytes the line of a report of the model has at most
abbrev pub most_bytes : PlantModel → ℕ
most_bytes m = 66 * length m.components + 136

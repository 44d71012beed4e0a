-- A borrowed event as an event, and what a tick came to as a report.
use Rattle.std.specs.Prelude.{List, ℕ}
use Rattle.cca_base.specs.declared.events.Event.{Event}
use Rattle.cca_base.specs.declared.events.Event.TheVariants as event
use Rattle.cca_base.specs.declared.events.Shown.{Shown}
use Rattle.cca_base.specs.declared.events.Shown.TheVariants as shown
use Rattle.cca_base.specs.declared.events.TickReport.{TickReport}
use Rattle.executive_loop.specs.declared.event_ref.EventRef.{EventRef}
use Rattle.executive_loop.specs.declared.event_ref.EventRef.TheVariants.{Goal, Clear, Observe, Fault, Mirror, Reset, Tick}
use Rattle.executive_loop.specs.declared.made.Outcome.{Outcome}
use Rattle.executive_loop.specs.declared.made.Outcome.TheVariants.{Estimated, Unexplained, Holding}
use Rattle.executive_loop.specs.declared.made.Made.{Made}

-- the event, where its pairs are read
abbrev pub event_read : EventRef → Event
event_read (Goal pairs) = event.Goal pairs.now
event_read Clear = event.Clear
event_read (Observe pairs) = event.Observe pairs.now
event_read (Fault p) = event.Fault p
event_read (Mirror v) = event.Mirror v
event_read Reset = event.Reset
event_read Tick = event.Tick

-- what a tick shows that left this estimate
abbrev pub shown_with : List ℕ → Outcome → Shown
shown_with modes (Estimated cost reply) = shown.Estimated cost (record { modes = modes }) reply
shown_with modes Unexplained = shown.Unexplained
shown_with modes Holding = shown.Holding

-- the report of a tick that left this estimate
abbrev pub report_with : List ℕ → Made → TickReport
report_with modes made = record { tick = made.tick; shown = shown_with modes made.outcome }

-- An event makes one tick at most.
use Rattle.std.proofs.Common.{◌≡◌, ◌<◌, ◌+◌, Option, Some, None, Result, Ok, Err, ap, arith}
use Rattle.std.specs.Prelude.{OnOk}
use Rattle.cca_base.specs.Accepted.{CompiledModel}
use Rattle.cca_base.specs.Orders.{IsSorted}
use Rattle.cca_base.specs.Plans.{Promising}
use Rattle.cca_base.specs.PlantModel.{PlantModel}
use Rattle.cca_base.specs.Trace.{ExecutiveState, ReplyRule, Changes, TickShows}
use Rattle.cca_base.specs.declared.events.Event.{Event}
use Rattle.cca_base.specs.declared.events.Event.TheVariants as event
use Rattle.cca_base.specs.declared.events.Shown.{Shown}
use Rattle.cca_base.specs.declared.events.Shown.TheVariants.{Estimated, Unexplained, Holding}
use Rattle.cca_base.specs.declared.events.TickReport.{TickReport}
use Rattle.control_laws.specs.Turns.{Control}
use Rattle.byte_buffer.specs.Outs.{Appended, Buffered}
use Rattle.trace_laws.specs.Events.{Acts}
use Rattle.program_form.specs.ProgramMachine.{MakesEvent, PrintsEvent, report_of, sequencer}
use Rattle.program_form.specs.PutIn.{Told}
use Rattle.program_form.proofs.Sequencing.{prepared}

change_counts : (b : CompiledModel) (x : ExecutiveState) (e : Event) (y : ExecutiveState) → Changes b.model (IsSorted b.order) x e y → y.ticks ≡ x.ticks
change_counts b x (event.Goal pairs) y (goal, sorted, e) = ap (λ (s : ExecutiveState). s.ticks) e
change_counts b x event.Clear y e = ap (λ (s : ExecutiveState). s.ticks) e
change_counts b x (event.Observe pairs) y (both, union, e) = ap (λ (s : ExecutiveState). s.ticks) e
change_counts b x (event.Fault p) y e = ap (λ (s : ExecutiveState). s.ticks) e
change_counts b x (event.Mirror v) y e = ap (λ (s : ExecutiveState). s.ticks) e
change_counts b x event.Reset y e = ap (λ (s : ExecutiveState). s.ticks) e
change_counts b x event.Tick y e = absurd e

shown_counts : (m : PlantModel) (answers : ReplyRule) (x : ExecutiveState) (shown : Shown) (y : ExecutiveState) → TickShows m answers x shown y → y.ticks ≡ x.ticks + 1
shown_counts m answers x (Estimated cost state reply) y h = ap (λ (s : ExecutiveState). s.ticks) h.after
shown_counts m answers x Unexplained y h = ap (λ (s : ExecutiveState). s.ticks) h.after
shown_counts m answers x Holding y h = ap (λ (s : ExecutiveState). s.ticks) h.1

acts_counts : (b : CompiledModel) (x : ExecutiveState) (e : Event) (y : ExecutiveState) (report : Option TickReport) → Acts b (Promising b) x e y report → y.ticks < x.ticks + 2
acts_counts b x e y None h = omega (arith, change_counts b x e y h)
acts_counts b x e y (Some report) h = omega (arith, shown_counts b.model (Promising b) x report.shown y h.2)

made_counts : (b : CompiledModel) (x : ExecutiveState) (c : Control) (e : Event) (y : ExecutiveState) (next : Control) (own : Option Told) → MakesEvent b x c e y next own → y.ticks < x.ticks + 2
made_counts b x c e y next own h =
    let alike = prepared b e (sequencer x c) h.put next x h.middle h.puts h.prepares in
    omega (arith, alike.ticks, acts_counts b h.middle e y (report_of own) h.acts)

-- the same of what a call made and appended
pub makes_count : {V E : Type 0} (b : CompiledModel) (x : ExecutiveState) (c : Control) (e : Event) (y : ExecutiveState) (next : Control) (r : Result V E) (old new : Buffered)
    → OnOk r (Appended (PrintsEvent b x c e y next) old new) → OnOk r (y.ticks < x.ticks + 2)
makes_count b x c e y next (Ok t) old new h = let (own, makes, text) = h.is in made_counts b x c e y next own makes
makes_count b x c e y next (Err w) old new h = tt

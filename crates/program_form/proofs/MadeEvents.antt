-- Events that were made, with what is told of them.
use Rattle.std.proofs.Common.{◌≡◌, ◌++◌, Bool, Option, Some, Result, Ok, Err, refl, sym, ap, subst, ◌∙◌}
use Rattle.std.specs.Prelude.{OnOk}
use Rattle.cca_base.specs.Accepted.{CompiledModel}
use Rattle.cca_base.specs.Plans.{Promising}
use Rattle.cca_base.specs.PlantModel.{PlantModel}
use Rattle.cca_base.specs.Trace.{ExecutiveState}
use Rattle.cca_base.specs.declared.events.Event.{Event}
use Rattle.cca_base.specs.declared.events.Event.TheVariants as event
use Rattle.cca_base.specs.declared.events.TickReport.{TickReport}
use Rattle.control_laws.specs.Turns.{Control}
use Rattle.control_program.specs.Rooms.{IsTurnRoomOf}
use Rattle.byte_buffer.specs.Outs.{Appended, Buffered}
use Rattle.trace_laws.specs.Events.{Acts, IsTick}
use Rattle.program_form.specs.Printed.{told_text}
use Rattle.program_form.specs.ProgramMachine.{Prepares, PrintsEvent, sequencer}
use Rattle.program_form.specs.PutIn.{Told, TurnsBefore, ends, left_by}
use Rattle.program_form.specs.Stages.{RunsInRoom, RunsWell}
use Rattle.program_form.specs.declared.running.Running.{Running}
use Rattle.program_form.proofs.RunningWell.{well_again}
use Rattle.program_form.proofs.Sequencing.{tick_is}

pub no_tick : (e : Event) → (e ≡ event.Tick → ⊥) → IsTick e → ⊥
no_tick e other tick = other (tick_is e tick)

-- a tick, with the turn before it
pub tick_made : {V E : Type 0} (b : CompiledModel) (x z y : ExecutiveState) (c next : Control) (ended : Bool) (report : TickReport) (r : Result V E) (old new : Buffered)
    → ((put : Option Event) × TurnsBefore x.holding b.model (sequencer x c) put next × Prepares b x put z × (ended ≡ ends c next)) → Acts b (Promising b) z event.Tick y (Some report)
    → OnOk r (new.bytes ≡ old.bytes ++ told_text b.model (record { report = report; ended = ended })) → OnOk r (Appended (PrintsEvent b x c event.Tick y next) old new)
tick_made b x z y c next ended report (Ok t) old new (put, turns, prepares, is) acts behind =
    let own : Told = record { report = report; ended = ended } in
    record {
      text = told_text b.model own;
      is = (Some own, record { put = put; puts = turns; told = (tt, is); middle = z; prepares = prepares; acts = acts }, refl);
      behind = behind;
    }
tick_made b x z y c next ended report (Err e) old new h acts behind = tt

-- a program that runs well goes on so behind it
pub well_left : (m : PlantModel) (e : Event) (c : Control) → RunsWell m c → RunsWell m (left_by e c)
well_left m event.Tick c well = well
well_left m event.Reset c well = well_again m c well
well_left m (event.Goal pairs) c well = well
well_left m event.Clear c well = well
well_left m (event.Observe pairs) c well = well
well_left m (event.Fault p) c well = well
well_left m (event.Mirror v) c well = well

-- the program is the same behind it
program_left : (e : Event) (c : Control) → (left_by e c).program ≡ c.program
program_left event.Tick c = refl
program_left event.Reset c = refl
program_left (event.Goal pairs) c = refl
program_left event.Clear c = refl
program_left (event.Observe pairs) c = refl
program_left (event.Fault p) c = refl
program_left (event.Mirror v) c = refl

-- and its turns have their room
pub runs_left : (m : PlantModel) (e : Event) (x : Running) (next : Control) → next ≡ left_by e x.runner → RunsInRoom m x → RunsInRoom m (record { runner = next; room = x.room })
runs_left m e x next is runs = record {
  well = subst (RunsWell m) (sym is) (well_left m e x.runner runs.well);
  room = subst (λ p. IsTurnRoomOf m p x.room) (sym (ap (λ (c : Control). c.program) is ∙ program_left e x.runner)) runs.room;
}

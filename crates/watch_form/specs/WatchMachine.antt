-- The machine of the lines behind a model which say what was commanded and observed.
use Rattle.std.specs.Prelude.{◌≡◌, ◌<◌, ◌+◌, ℕ, false, List, [], ◌++◌, Some}
use Rattle.std.specs.Option.{is_some}
use Rattle.cca_base.specs.Accepted.{CompiledModel}
use Rattle.cca_base.specs.declared.cube.Pair.{Pair}
use Rattle.line_forms.specs.LinesMachine.{lines_machine}
use Rattle.line_forms.specs.LineMeaning.{LineMeaning}
use Rattle.line_machine.specs.Next.{Next, GoesOn}
use Rattle.line_machine.specs.declared.machine.End.TheVariants.{Ended}
use Rattle.line_machine.specs.declared.machine.Machine.{Ghosts}
use Rattle.model_form.specs.declared.limits.TheConstants.{MAX_LINE}
use Rattle.model_form.specs.Answers.{answer}
use Rattle.model_form.specs.FormMachine.{form_machine}
use Rattle.model_form.specs.FormStates.{FormState}
use Rattle.model_form.specs.LineMachines.{form_of_lines}
use Rattle.model_form.specs.ModelSteps.{GoesOnIn}
use Rattle.model_form.specs.declared.form.ModelForm.{Ghosts as FormGhosts}
use Rattle.model_form.specs.declared.lines.OfLines.{OfLines}
use Rattle.watch_lines.specs.WatchEvents.{FitsWatch, IsWatchEventOf}
use Rattle.watch_lines.specs.declared.watch_event.WatchEvent.{WatchEvent}
use Rattle.watch_lines.specs.declared.watch_event.WatchEvent.TheVariants.{Sent, Observe, Reset, Tick}
use Rattle.window_laws.specs.Ticks.{Answer, TrackerState, Ticks, start}
use Rattle.window_laws.specs.Trajectories.{Entry}
use Rattle.watch_form.specs.Answered.{answer_line}
use Rattle.watch_form.specs.Calls.{nothing_pending}

-- where the lines stand: the compiled model, its tracker, and what is pending
pub record WatchState : Type 0 where
  pub compiled : CompiledModel
  pub state : TrackerState
  pub pending : Entry

-- before the first line behind the model
abbrev pub watch_first : CompiledModel → WatchState
watch_first b = record { compiled = b; state = start b.model 0; pending = nothing_pending }

-- the command is pending
abbrev pub sent_at : WatchState → ℕ → WatchState
sent_at x command = record { compiled = x.compiled; state = x.state; pending = record { command = Some command; seen = x.pending.seen } }

-- the pairs are pending too
abbrev pub observed : WatchState → List Pair → WatchState
observed x pairs = record { compiled = x.compiled; state = x.state; pending = record { command = x.pending.command; seen = x.pending.seen ++ pairs } }

-- the tracker stands so, and nothing is pending
abbrev pub tracking : WatchState → TrackerState → WatchState
tracking x y = record { compiled = x.compiled; state = y; pending = nothing_pending }

-- the tracker is as at the start, and nothing is pending; the ticks go on counting
abbrev pub restarted : WatchState → WatchState
restarted x = tracking x (start x.compiled.model x.state.ticks)

-- a tick with what is pending, which leaves nothing pending
abbrev pub TicksTo : WatchState → WatchState → Answer → Type 0
TicksTo x y answer = (z : TrackerState) × Ticks x.compiled.model x.state x.pending z answer × (y ≡ tracking x z)

-- what an event leads to: something is pending, all begins again, or a tick is made and its answer printed
abbrev pub ServesEvent : WatchEvent → WatchState → Next WatchState → List ℕ → Type 0
ServesEvent (Sent command) x u text = GoesOnIn (sent_at x command) u text
ServesEvent (Observe pairs) x u text = GoesOnIn (observed x pairs) u text
ServesEvent Reset x u text = GoesOnIn (restarted x) u text
ServesEvent Tick x u text =
    (y : WatchState) × (answer : Answer) × TicksTo x y answer × (u ≡ GoesOn y) × (text ≡ answer_line x.compiled.model (record { tick = x.state.ticks + 1; answer = answer }))

-- fewer ticks were made than this line's number
abbrev pub WatchAwaits : WatchState → ℕ → Type 0
WatchAwaits x n = x.state.ticks < n

-- what a line says with what is pending, and what is done for it; the lines may end anywhere
abbrev pub watch_lines : LineMeaning WatchState WatchEvent
watch_lines = record {
  model_of = λ x. x.compiled.model;
  is_json = λ x. false;
  limit_of = λ x. MAX_LINE;
  said = λ x line said. IsWatchEventOf x.compiled.model x.pending.seen (is_some x.pending.command) line said;
  fits = λ x event. FitsWatch x.compiled.model x.pending.seen (is_some x.pending.command) event;
  serves = λ event x n u text. ServesEvent event x u text;
  closing = λ x n. answer Ended [];
  awaits = WatchAwaits;
  steady = λ x n. ⊥;
}

-- the machine of the lines
abbrev pub watching_machine : Ghosts WatchState
watching_machine = lines_machine watch_lines

-- what the form says at the line `script`
abbrev pub watch_form : FormGhosts OfLines WatchState
watch_form = form_of_lines watch_first

-- the machine of the form `watch`
abbrev pub watch_machine : Ghosts (FormState OfLines WatchState)
watch_machine = form_machine watch_form watching_machine

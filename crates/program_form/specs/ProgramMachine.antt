-- The machine of the lines behind a model that are a control program and its events.
use Rattle.std.specs.Prelude.{◌≡◌, ◌<◌, ◌≤◌, ℕ, false, List, [], Option, Some, None, Result, Ok, Err}
use Rattle.std.specs.Option.{option_map}
use Rattle.cca_base.specs.declared.codes.TheConstants.{ENDS_EARLY}
use Rattle.cca_base.specs.declared.events.Event.{Event}
use Rattle.cca_base.specs.declared.events.TickReport.{TickReport}
use Rattle.cca_base.specs.Accepted.{CompiledModel, IsCompiled}
use Rattle.cca_base.specs.Plans.{Promising}
use Rattle.cca_base.specs.PlantModel.{PlantModel}
use Rattle.cca_base.specs.Refusals.{bare}
use Rattle.cca_base.specs.Trace.{ExecutiveState, MayCome, start}
use Rattle.control_laws.specs.Rest.{whole}
use Rattle.control_laws.specs.Turns.{Control, fresh}
use Rattle.control_syntax.specs.Codes.{IsSaid}
use Rattle.control_syntax.specs.Reading.{Reading, led, nothing_read}
use Rattle.control_syntax.specs.declared.line.Line.{Line}
use Rattle.control_syntax.specs.declared.part.Part.{Part}
use Rattle.line_forms.specs.LinesMachine as frame
use Rattle.line_forms.specs.LineMeaning.{LineMeaning}
use Rattle.line_machine.specs.Next.{Next, GoesOn}
use Rattle.line_machine.specs.declared.machine.End.TheVariants.{Ended}
use Rattle.line_machine.specs.declared.machine.Machine.{Ghosts}
use Rattle.model_form.specs.Answers.{Answer, answer, refused_answer}
use Rattle.model_form.specs.FormMachine.{form_machine}
use Rattle.model_form.specs.FormStates.{FormState}
use Rattle.model_form.specs.LineMachines.{form_of_lines}
use Rattle.model_form.specs.ModelSteps.{GoesOnIn, RefusesLine}
use Rattle.model_form.specs.declared.form.ModelForm.{Ghosts as FormGhosts}
use Rattle.model_form.specs.declared.limits.TheConstants.{MAX_LINE}
use Rattle.model_form.specs.declared.lines.OfLines.{OfLines}
use Rattle.trace_laws.specs.Events.{Acts}
use Rattle.trace_text.specs.declared.refusal.TheConstants.{REFUSAL_ROOM}
use Rattle.program_form.specs.Printed.{most_told, told_text}
use Rattle.program_form.specs.PutIn.{Sequencer, PutsBefore, IsToldOf, Told}
use Rattle.program_form.specs.Sequences.{event_line}
use Rattle.program_form.specs.declared.item.ProgramItem.{ProgramItem}
use Rattle.program_form.specs.declared.item.ProgramItem.TheVariants as items

-- so much of the program is read, or it runs, and this is left of it
pub data Stage : Type 0 where
  Reads : Reading → Stage
  Runs : Control → Stage

-- where the lines stand: the compiled model, its executive, and the program
pub record ProgramState : Type 0 where
  pub compiled : CompiledModel
  pub state : ExecutiveState
  pub stage : Stage

-- before the first line behind the model
abbrev pub program_first : CompiledModel → ProgramState
program_first b = record { compiled = b; state = start b.model 0; stage = Reads nothing_read }

-- the program is read so far, or it is whole and runs
abbrev pub stage_by : Option Part → Reading → Stage
stage_by None y = Reads y
stage_by (Some part) y = Runs (fresh (whole part))

-- a state behind a line of its program, with what is read of it so far
abbrev pub behind_line : ProgramState → Reading → ProgramState
behind_line x y = record { compiled = x.compiled; state = x.state; stage = stage_by y.whole y }

-- a program that runs: its model, its executive and what is left of it
abbrev pub running : CompiledModel → ExecutiveState → Control → ProgramState
running b y next = record { compiled = b; state = y; stage = Runs next }

-- a program that runs, with what it knows of the executive
abbrev pub sequencer : ExecutiveState → Control → Sequencer
sequencer x c = record { control = c; estimate = x.estimate; holding = x.holding }

-- the event that is put in leads there, if there is one
abbrev pub Prepares : CompiledModel → ExecutiveState → Option Event → ExecutiveState → Type 0
Prepares b x None z = z ≡ x
Prepares b x (Some e) z = Acts b (Promising b) x e z None

-- the text of a tick, if the event is one
abbrev pub event_text : PlantModel → Option Told → List ℕ
event_text m None = []
event_text m (Some told) = told_text m told

-- what is reported of it
abbrev pub report_of : Option Told → Option TickReport
report_of own = option_map (λ t. t.report) own

-- an event leads from x to y, with what is put in before it
pub record MakesEvent (b : CompiledModel) (x : ExecutiveState) (c : Control) (e : Event) (y : ExecutiveState) (next : Control) (own : Option Told) : Type 0 where
  pub put : Option Event
  pub puts : PutsBefore b.model e (sequencer x c) put next
  pub told : IsToldOf e c next own
  pub middle : ExecutiveState
  pub prepares : Prepares b x put middle
  pub acts : Acts b (Promising b) middle e y (report_of own)

-- an event leads there, and this is printed of it
abbrev pub PrintsEvent : CompiledModel → ExecutiveState → Control → Event → ExecutiveState → Control → List ℕ → Type 0
PrintsEvent b x c e y next text = (own : Option Told) × MakesEvent b x c e y next own × (text ≡ event_text b.model own)

-- a line of the program: more of it is read; or the line is refused
abbrev pub ReadsBy : Result (Option Line) ℕ → ProgramState → Reading → ℕ → Next ProgramState → List ℕ → Type 0
ReadsBy (Err code) x y n u text = RefusesLine false x.compiled.model n (bare code) u text
ReadsBy (Ok said) x y n u text = GoesOnIn (behind_line x (led y said)) u text

-- what an event line says, as what it asks for
abbrev pub asks_event : Result (Option Event) ℕ → Result (Option ProgramItem) ℕ
asks_event (Err code) = Err code
asks_event (Ok None) = Ok None
asks_event (Ok (Some e)) = Ok (Some (items.Makes e))

-- what a line says: in the program that more of it is read, whatever stands in the line; behind it what an event line says
abbrev pub SaysIn : Stage → ProgramState → List ℕ → Result (Option ProgramItem) ℕ → Type 0
SaysIn (Reads y) x line said = said ≡ Ok (Some (items.Reads line))
SaysIn (Runs c) x line said = IsCompiled x.compiled × (said ≡ asks_event (event_line x.compiled.model x.state.pending x.state.mirrored line))

-- a line of the program is read where the program is, and an event that is made may come
abbrev pub FitsIn : Stage → ProgramState → ProgramItem → Type 0
FitsIn (Reads y) x (items.Reads line) = Unit {0}
FitsIn (Reads y) x (items.Makes e) = ⊥
FitsIn (Runs c) x (items.Reads line) = ⊥
FitsIn (Runs c) x (items.Makes e) = MayCome x.compiled.model x.state.pending x.state.mirrored e

-- what is done for it: more of the program is read, or the line is refused; or an event is made, and what is told of it is printed
abbrev pub ServesIn : Stage → ProgramItem → ProgramState → ℕ → Next ProgramState → List ℕ → Type 0
ServesIn (Reads y) (items.Reads line) x n u text = (said : Result (Option Line) ℕ) × IsSaid x.compiled.model y line said × ReadsBy said x y n u text
ServesIn (Reads y) (items.Makes e) x n u text = ⊥
ServesIn (Runs c) (items.Reads line) x n u text = ⊥
ServesIn (Runs c) (items.Makes e) x n u text =
    (y : ExecutiveState) × (next : Control) × PrintsEvent x.compiled x.state c e y next text × (u ≡ GoesOn (running x.compiled y next))

-- what is printed at the end of the input: it may come behind the program, and is refused in it
abbrev pub closing_in : Stage → PlantModel → ℕ → Answer
closing_in (Reads y) m n = refused_answer false m n (bare ENDS_EARLY)
closing_in (Runs c) m n = answer Ended []

-- a program that is still read isn't whole yet
abbrev pub IsProperStage : Stage → Type 0
IsProperStage (Reads y) = y.whole ≡ None
IsProperStage (Runs c) = Unit {0}

-- fewer ticks were made than this line's number, and a whole program runs
abbrev pub ProgramAwaits : ProgramState → ℕ → Type 0
ProgramAwaits x n = (x.state.ticks < n) × IsProperStage x.stage

-- the program was read whole
abbrev pub IsRunning : Stage → Type 0
IsRunning (Reads y) = ⊥
IsRunning (Runs c) = Unit {0}

-- behind a program that was read whole no line takes memory where there is room for what is told of any tick of the model, and for a refusal
pub record ProgramSteady (x : ProgramState) (n : ℕ) : Type 0 where
  pub running : IsRunning x.stage
  pub told : most_told x.compiled.model ≤ n
  pub refusal : REFUSAL_ROOM ≤ n

-- what a line says, and what is done for it
abbrev pub program_lines : LineMeaning ProgramState ProgramItem
program_lines = record {
  model_of = λ x. x.compiled.model;
  is_json = λ x. false;
  limit_of = λ x. MAX_LINE;
  said = λ x line said. SaysIn x.stage x line said;
  fits = λ x item. FitsIn x.stage x item;
  serves = λ item x n u text. ServesIn x.stage item x n u text;
  closing = λ x n. closing_in x.stage x.compiled.model n;
  awaits = ProgramAwaits;
  steady = ProgramSteady;
}

-- the machine of the lines
abbrev pub lines_machine : Ghosts ProgramState
lines_machine = frame.lines_machine program_lines

-- a line behind the program, by what an event line says
abbrev pub MakesBy : Result (Option Event) ℕ → CompiledModel → ExecutiveState → Control → ℕ → Next ProgramState → List ℕ → Type 0
MakesBy r b x c n u text = frame.DoesBy program_lines (asks_event r) (running b x c) n u text

-- what the form says at the line `script`
abbrev pub program_form : FormGhosts OfLines ProgramState
program_form = form_of_lines program_first

-- the machine of the form `program`
abbrev pub program_machine : Ghosts (FormState OfLines ProgramState)
program_machine = form_machine program_form lines_machine

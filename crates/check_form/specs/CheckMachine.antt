-- The machine of a check behind its model: it reads a script, and then judges a printed trace, line by line. It prints only where it ends.
use Rattle.std.specs.Prelude.{◌≡◌, ⊤, ℕ, ◌+◌, Bool, true, false, List, Option, Some, None, Result, Ok, Err}
use Rattle.cca_base.specs.declared.codes.TheConstants.{ENDS_EARLY}
use Rattle.cca_base.specs.declared.cube.Pair.{Pair}
use Rattle.cca_base.specs.declared.events.Event.{Event}
use Rattle.cca_base.specs.Accepted.{CompiledModel, IsCompiled}
use Rattle.cca_base.specs.PlantModel.{PlantModel}
use Rattle.cca_base.specs.Refusals.{bare}
use Rattle.cca_base.specs.Trace.{MayCome, start}
use Rattle.line_forms.specs.LinesMachine.{lines_machine}
use Rattle.line_forms.specs.LineMeaning.{LineMeaning}
use Rattle.line_machine.specs.Next.{Next, Stops}
use Rattle.line_machine.specs.declared.machine.End.TheVariants as ends
use Rattle.line_machine.specs.declared.machine.Machine.{Ghosts}
use Rattle.model_form.specs.Answers.{Answer, answer, refused_answer}
use Rattle.model_form.specs.ModelSteps.{GoesOnIn}
use Rattle.model_form.specs.declared.limits.TheConstants.{MAX_LINE}
use Rattle.plan_checker.specs.declared.reasons.TheConstants.{LINE}
use Rattle.script_reader.specs.EventLines.{event_line}
use Rattle.trace_laws.specs.Events.{PendingAfter}
use Rattle.trace_text.specs.declared.limits.TheConstants.{MAX_TRACE_LINE}
use Rattle.check_form.specs.CheckScript.{ScriptSoFar, is_trace_line, no_events, with_event}
use Rattle.check_form.specs.CheckTrace.{TraceSoFar, TraceOutcome, Follows, Fails, ComesTo, TraceLeads}
use Rattle.check_form.specs.Verdicts.{no_line, checked_line}
use Rattle.check_form.specs.declared.item.CheckItem.{CheckItem}
use Rattle.check_form.specs.declared.item.CheckItem.TheVariants as items

-- where a check stands behind an accepted model: in its script, or in its trace
pub data CheckState : Type 0 where
  InScript : (compiled : CompiledModel) → (script : ScriptSoFar) → CheckState
  InTrace : (compiled : CompiledModel) → (trace : TraceSoFar) → CheckState

-- the model by which a document and its trace are checked
abbrev pub model_of : CheckState → PlantModel
model_of (InScript b s) = b.model
model_of (InTrace b x) = b.model

-- the most bytes of the next line
abbrev pub limit_in : CheckState → ℕ
limit_in (InScript b s) = MAX_LINE
limit_in (InTrace b x) = MAX_TRACE_LINE

-- before the first line of the script
abbrev pub check_first : CompiledModel → CheckState
check_first b = InScript b no_events

-- ---- what a line says

-- what a line of the script asks for: its end, or what an event line says
abbrev pub script_item : Bool → Result (Option Event) ℕ → Result (Option CheckItem) ℕ
script_item true said = Ok (Some items.Trace)
script_item false (Err code) = Err code
script_item false (Ok None) = Ok None
script_item false (Ok (Some e)) = Ok (Some (items.Keeps e))

-- what a line says: in the script what it asks for there; in the trace that it is judged, whatever stands in the line
abbrev pub SaysIn : CheckState → List ℕ → Result (Option CheckItem) ℕ → Type 0
SaysIn (InScript b s) line said = IsCompiled b × (said ≡ script_item (is_trace_line line) (event_line b.model s.pending s.mirrored line))
SaysIn (InTrace b x) line said = IsCompiled b × (said ≡ Ok (Some (items.Judges line)))

-- an event that is kept may come, and no line is judged in the script
abbrev pub FitsScript : PlantModel → ScriptSoFar → CheckItem → Type 0
FitsScript m s (items.Keeps e) = MayCome m s.pending s.mirrored e
FitsScript m s items.Trace = Unit {0}
FitsScript m s (items.Judges line) = ⊥

-- in the trace lines are judged alone
abbrev pub FitsTrace : CheckItem → Type 0
FitsTrace (items.Keeps e) = ⊥
FitsTrace items.Trace = ⊥
FitsTrace (items.Judges line) = Unit {0}

-- what is known of what is asked for
abbrev pub FitsIn : CheckState → CheckItem → Type 0
FitsIn (InScript b s) item = FitsScript b.model s item
FitsIn (InTrace b x) item = FitsTrace item

-- ---- what is done for it

-- a No is printed, and the program ends
abbrev pub Rejects : TraceSoFar → ℕ → Next CheckState → List ℕ → Type 0
Rejects x reason u text = (u ≡ Stops ends.Rejected) × (text ≡ no_line (x.state.ticks + 1) reason)

-- by what a line of the trace leads to
abbrev pub TraceSteps : TraceOutcome → CompiledModel → TraceSoFar → Next CheckState → List ℕ → Type 0
TraceSteps (Follows t) b x u text = GoesOnIn (InTrace b t) u text
TraceSteps (Fails reason) b x u text = Rejects x reason u text

-- in the script an event is kept; and behind the line `trace` the events up to the first tick are made
abbrev pub ServesScript : CheckItem → CompiledModel → ScriptSoFar → Next CheckState → List ℕ → Type 0
ServesScript (items.Keeps e) b s u text = (after : List Pair) × PendingAfter s.pending e after × GoesOnIn (InScript b (with_event s e after)) u text
ServesScript items.Trace b s u text = (x : TraceSoFar) × ComesTo b.model (start b.model 0) s.events x × GoesOnIn (InTrace b x) u text
ServesScript (items.Judges line) b s u text = ⊥

-- in the trace a line is judged
abbrev pub ServesTrace : CheckItem → CompiledModel → TraceSoFar → Next CheckState → List ℕ → Type 0
ServesTrace (items.Keeps e) b x u text = ⊥
ServesTrace items.Trace b x u text = ⊥
ServesTrace (items.Judges line) b x u text = (o : TraceOutcome) × TraceLeads b.model x line o × TraceSteps o b x u text

-- what is done, wherever the check stands
abbrev pub ServesIn : CheckItem → CheckState → Next CheckState → List ℕ → Type 0
ServesIn item (InScript b s) u text = ServesScript item b s u text
ServesIn item (InTrace b x) u text = ServesTrace item b x u text

-- ---- the end of the input

-- the end of a trace: no tick is left, or a line of the next one is missing
abbrev pub trace_closing : Option (List Event) → TraceSoFar → Answer
trace_closing None x = answer ends.Ended (checked_line x.state.ticks)
trace_closing (Some events) x = answer ends.Rejected (no_line (x.state.ticks + 1) LINE)

-- what is printed at the end of the input: a script has to end with the line `trace`
abbrev pub closing_in : CheckState → ℕ → Answer
closing_in (InScript b s) n = refused_answer false b.model n (bare ENDS_EARLY)
closing_in (InTrace b x) n = trace_closing x.behind x

-- what a line says, and what is done for it
abbrev pub check_lines : LineMeaning CheckState CheckItem
check_lines = record {
  model_of = model_of;
  is_json = λ s. false;
  limit_of = limit_in;
  said = SaysIn;
  fits = FitsIn;
  serves = λ item s n u text. ServesIn item s u text;
  closing = closing_in;
  awaits = λ s n. ⊤;
  steady = λ x n. ⊥;
}

-- the machine of a document and its printed trace
abbrev pub checking_machine : Ghosts CheckState
checking_machine = lines_machine check_lines

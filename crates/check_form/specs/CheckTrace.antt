-- How the lines of a printed trace are judged, behind the events of a script.
use Rattle.std.specs.Prelude.{◌≡◌, ◌≢◌, ◌⊎◌, ℕ, ◌+◌, List, [], ◌∷◌, ◌++◌, length, Option, Some, None}
use Rattle.cca_base.specs.declared.cube.Pair.{Pair}
use Rattle.cca_base.specs.declared.events.Event.{Event}
use Rattle.cca_base.specs.declared.events.Refusal.{Refusal}
use Rattle.cca_base.specs.PlantModel.{PlantModel}
use Rattle.cca_base.specs.Refusals.{bare}
use Rattle.cca_base.specs.Trace.{ExecutiveState, Changes, Observed, start}
use Rattle.line_machine.specs.Runs.{length_code}
use Rattle.plan_checker.specs.Checked.{TakesAtYes}
use Rattle.plan_checker.specs.Reasons.{Printed, OnEstimate, IsVerdict}
use Rattle.plan_checker.specs.declared.reasons.TheConstants.{LINE}
use Rattle.plan_checker.specs.declared.verdict.Verdict.{Verdict}
use Rattle.plan_checker.specs.declared.verdict.Verdict.TheVariants.{Yes, No}
use Rattle.trace_laws.specs.Events.{AsGiven, IsTick}
use Rattle.trace_text.specs.TraceLines.{FitsLine, trace_line}
use Rattle.trace_text.specs.declared.trace_line.TraceLine.{TraceLine}
use Rattle.check_form.specs.TickLines.{TickLines, NotNext, More, Whole, next_lines}
use Rattle.trace_text.specs.declared.limits.TheConstants.{MAX_TRACE_LINE}
use Rattle.check_form.specs.declared.tick_lines.TickSoFar.{TickSoFar}
use Rattle.check_form.specs.declared.tick_lines.TickSoFar.TheVariants.{Nothing}

-- where the check of a trace stands: where the checker stands, with the events before the next tick made; the events behind that tick, if one comes; and what was read of its lines
pub record TraceSoFar : Type 0 where
  pub state : ExecutiveState
  pub behind : Option (List Event)
  pub lines : TickSoFar

-- before the lines of a tick, or behind the last one
abbrev pub before_tick : ExecutiveState → Option (List Event) → TraceSoFar
before_tick x behind = record { state = x; behind = behind; lines = Nothing }

-- from x the events up to the next tick lead to here
abbrev pub ComesTo : PlantModel → ExecutiveState → List Event → TraceSoFar → Type 0
ComesTo m x [] t = t ≡ before_tick x None
ComesTo m x (e ∷ events) t =
    (IsTick e × (t ≡ before_tick x (Some events))) ⊎ ((y : ExecutiveState) × Changes m AsGiven x e y × ComesTo m y events t)

-- ---- a line

-- the line is the text of this, without its LF; or it is the text of no line of a trace
abbrev pub SaysLine : PlantModel → List ℕ → Option TraceLine → Type 0
SaysLine m l (Some value) = FitsLine m value × (trace_line m value ≡ l ++ 10 ∷ [])
SaysLine m l None = (value : TraceLine) → FitsLine m value → trace_line m value ≢ l ++ 10 ∷ []

-- what a line of a trace leads to: further lines, or a No with its reason to the next tick
pub data TraceOutcome : Type 0 where
  Follows : (trace : TraceSoFar) → TraceOutcome
  Fails : (reason : ℕ) → TraceOutcome

-- what the tick observes is some list of pairs
abbrev pub SeesPairs : PlantModel → ExecutiveState → Type 0
SeesPairs m x = (seen : List Pair) × Observed m x seen

-- by the verdict on a tick: what is shown is taken, and the later events lead to the next tick; or a No
abbrev pub ByVerdict : Verdict → PlantModel → ExecutiveState → Printed → List Event → TraceOutcome → Type 0
ByVerdict Yes m x t events o =
    OnEstimate t.report.shown (λ cost s reply. SeesPairs m x)
    × (y : ExecutiveState) × TakesAtYes m x t.report.shown Yes y × (next : TraceSoFar) × ComesTo m y events next × (o ≡ Follows next)
ByVerdict (No reason) m x t events o = o ≡ Fails reason

-- the lines of a tick with one more: the line isn't the one that is needed, more have to come, or the tick is judged
abbrev pub ByLines : TickLines → PlantModel → TraceSoFar → List Event → TraceOutcome → Type 0
ByLines NotNext m x events o = o ≡ Fails LINE
ByLines (More lines) m x events o = o ≡ Follows (record { state = x.state; behind = Some events; lines = lines })
ByLines (Whole t) m x events o = (v : Verdict) × IsVerdict m x.state t v × ByVerdict v m x.state t events o

-- the lines of the next tick with what a line says
abbrev pub with_said : TraceSoFar → Option TraceLine → TickLines
with_said x None = NotNext
with_said x (Some value) = next_lines x.state.ticks x.lines value

-- a line behind the last tick is too many
abbrev pub LeadsBehind : Option (List Event) → PlantModel → TraceSoFar → List ℕ → TraceOutcome → Type 0
LeadsBehind None m x l o = o ≡ Fails LINE
LeadsBehind (Some events) m x l o = (said : Option TraceLine) × SaysLine m l said × ByLines (with_said x said) m x events o

-- what a line of a trace leads to
abbrev pub TraceLeads : PlantModel → TraceSoFar → List ℕ → TraceOutcome → Type 0
TraceLeads m x l o = LeadsBehind x.behind m x l o

-- ---- all lines

-- how a check ends: with a Yes to so many ticks, with the first No, or at the first line that is refused
pub data CheckEnd : Type 0 where
  AllYes : (ticks : ℕ) → CheckEnd
  FirstNo : (tick : ℕ) → (reason : ℕ) → CheckEnd
  FirstRefusal : (model : PlantModel) → (line : ℕ) → (refusal : Refusal) → CheckEnd

-- a No to the next tick
abbrev pub no_to : TraceSoFar → ℕ → CheckEnd
no_to x reason = FirstNo (x.state.ticks + 1) reason

-- the end of the input: no tick is left, or a line of the next one is missing
abbrev pub end_behind : Option (List Event) → TraceSoFar → CheckEnd
end_behind None x = AllYes x.state.ticks
end_behind (Some events) x = no_to x LINE

-- how a trace ends, by what a line leads to
abbrev pub AfterLine : TraceOutcome → TraceSoFar → (TraceSoFar → Type 0) → CheckEnd → Type 0
AfterLine (Follows t) x goes_on end = goes_on t
AfterLine (Fails reason) x goes_on end = end ≡ no_to x reason

-- how a line of the trace is judged, whose length and number come before all that it says
abbrev pub JudgesByCode : Option ℕ → PlantModel → TraceSoFar → ℕ → List ℕ → (TraceSoFar → Type 0) → CheckEnd → Type 0
JudgesByCode (Some code) m x n l goes_on end = end ≡ FirstRefusal m n (bare code)
JudgesByCode None m x n l goes_on end = (o : TraceOutcome) × TraceLeads m x l o × AfterLine o x goes_on end

-- the code of a trace's line of this number that is too long, or one too many
abbrev pub trace_line_code : ℕ → List ℕ → Option ℕ
trace_line_code n l = length_code MAX_TRACE_LINE n (length l)

-- the lines behind n lines of an input are judged so
abbrev pub JudgesLines : PlantModel → TraceSoFar → ℕ → List (List ℕ) → CheckEnd → Type 0
JudgesLines m x n [] end = end ≡ end_behind x.behind x
JudgesLines m x n (l ∷ ls) end = JudgesByCode (trace_line_code (n + 1) l) m x (n + 1) l (λ t. JudgesLines m t (n + 1) ls end) end

-- the lines of a trace behind n lines of an input are judged so, for these events
abbrev pub JudgesTrace : PlantModel → List Event → ℕ → List (List ℕ) → CheckEnd → Type 0
JudgesTrace m events n ls end = (x : TraceSoFar) × ComesTo m (start m 0) events x × JudgesLines m x n ls end

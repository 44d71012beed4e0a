-- Where the code of `check` stands, and what is known of it.
use Rattle.std.specs.Prelude.{◌≡◌, ℕ, ◌+◌, List, [], ◌∷◌, Option, Some, None, IfSome}
use Rattle.std.specs.Option.{option_map}
use Rattle.cca_base.specs.declared.cube.Pair.{Pair}
use Rattle.cca_base.specs.declared.events.Event.{Event}
use Rattle.cca_base.specs.Accepted.{CompiledModel}
use Rattle.cca_base.specs.Cube.{IsRising}
use Rattle.cca_base.specs.State.{HasWorlds}
use Rattle.cca_base.specs.PlantModel.{PlantModel}
use Rattle.cca_base.specs.Trace.{MayCome, ExecutiveState}
use Rattle.consistency.specs.Worlds.{AreWorldsOf}
use Rattle.line_machine.specs.declared.machine.End.{End}
use Rattle.line_machine.specs.declared.machine.End.TheVariants as ends
use Rattle.plan_checker.specs.Standing.{FitsModel}
use Rattle.trace_laws.specs.Events.{PendingAfter, mirrored_after}
use Rattle.check_form.specs.CheckMachine.{CheckState, InScript, InTrace}
use Rattle.check_form.specs.CheckScript.{ScriptSoFar}
use Rattle.check_form.specs.CheckTrace.{TraceSoFar, TraceOutcome, Follows, Fails, ComesTo}
use Rattle.check_form.specs.declared.checking.Part.{Part}
use Rattle.check_form.specs.declared.checking.Part.TheVariants as parts
use Rattle.check_form.specs.Verdicts.{no_line}
use Rattle.check_form.specs.declared.check_script.ScriptEvents.{ScriptEvents}
use Rattle.check_form.specs.declared.check_trace.TraceCheck.{TraceCheck}

-- what code keeps of a script
abbrev pub script_of : ScriptEvents → ScriptSoFar
script_of s = record { events = s.events.items; pending = s.known.pending.pairs; mirrored = s.known.mirrored }

-- what code keeps of a trace
abbrev pub trace_of : TraceCheck → TraceSoFar
trace_of t = record { state = t.checker; behind = option_map (λ q. q.items) t.behind; lines = t.lines }

-- the same, where these events come behind the next tick
abbrev pub waiting : TraceCheck → List Event → TraceSoFar
waiting t events = record { state = t.checker; behind = Some events; lines = t.lines }

-- a check behind its model
abbrev pub part_state : CompiledModel → Part → CheckState
part_state b (parts.Script s) = InScript b (script_of s)
part_state b (parts.Trace t) = InTrace b (trace_of t)

-- the events may come one after the other, from what is pending and mirrored here to what is there
abbrev pub ComeInTurn : PlantModel → List Pair → ℕ → List Event → List Pair → ℕ → Type 0
ComeInTurn m p mirrored [] q mirrors = (q ≡ p) × (mirrors ≡ mirrored)
ComeInTurn m p mirrored (e ∷ events) q mirrors =
    MayCome m p mirrored e × (after : List Pair) × PendingAfter p e after × ComeInTurn m after (mirrored_after mirrored e) events q mirrors

-- the events may come one after the other
abbrev pub MayComeInTurn : PlantModel → List Pair → ℕ → List Event → Type 0
MayComeInTurn m p mirrored events = (q : List Pair) × (mirrors : ℕ) × ComeInTurn m p mirrored events q mirrors

-- what is pending in a script rises, and is what its events leave
pub record KeepsScript (m : PlantModel) (s : ScriptSoFar) : Type 0 where
  pub rising : IsRising s.pending
  pub come : ComeInTurn m [] 0 s.events s.pending s.mirrored

-- behind the next tick, which leaves nothing pending, the events may come
abbrev pub MayComeBehind : PlantModel → ExecutiveState → Option (List Event) → Type 0
MayComeBehind m x behind = IfSome behind (MayComeInTurn m [] x.mirrored)

-- the checker fits the model, and the later events may come
pub record KeepsTrace (m : PlantModel) (x : TraceSoFar) : Type 0 where
  pub fits : FitsModel m x.state
  pub come : MayComeBehind m x.state x.behind

-- the clauses are those of the model's rules, the checker fits the model, and the later events may come
pub record KeepsCheck (m : PlantModel) (t : TraceCheck) : Type 0 where
  pub clauses : AreWorldsOf m t.worlds
  pub trace : KeepsTrace m (trace_of t)

-- every state has a world, the clauses are those of the rules, the checker fits the model, and its next tick may be judged, behind which these events come
pub record MayJudge (m : PlantModel) (t : TraceCheck) (events : List Event) : Type 0 where
  pub worlds : HasWorlds m
  pub clauses : AreWorldsOf m t.worlds
  pub fits : FitsModel m t.checker
  pub moved : t.behind ≡ None
  pub come : MayComeInTurn m [] t.checker.mirrored events

-- what is kept in each part
abbrev pub KeepsPart : PlantModel → Part → Type 0
KeepsPart m (parts.Script s) = KeepsScript m (script_of s)
KeepsPart m (parts.Trace t) = KeepsCheck m t

-- ---- what code answers

-- what code answers and appends, by what a line of the trace leads to: it goes on there, or a No is printed
abbrev pub SaysBy : TraceOutcome → TraceSoFar → TraceSoFar → Option End → List ℕ → Type 0
SaysBy (Follows t) x y end text = (end ≡ None) × (text ≡ []) × (t ≡ y)
SaysBy (Fails reason) x y end text = (end ≡ Some ends.Rejected) × (text ≡ no_line (x.state.ticks + 1) reason)

-- a line leads to what code answers and appends
abbrev pub SaysOf : (TraceOutcome → Type 0) → TraceSoFar → TraceSoFar → Option End → List ℕ → Type 0
SaysOf Leads x y end text = (o : TraceOutcome) × Leads o × SaysBy o x y end text

-- the first events were made, from x on, and the others may come
pub record Advances (m : PlantModel) (x : ExecutiveState) (events : List Event) (y : ExecutiveState) (rest : List Event) : Type 0 where
  pub fits : FitsModel m y
  pub come : MayComeInTurn m y.pending y.mirrored rest
  pub back : (t : TraceSoFar) → ComesTo m y rest t → ComesTo m x events t

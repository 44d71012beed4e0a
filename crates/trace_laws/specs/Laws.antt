-- The laws of whole traces.
use Rattle.std.specs.Prelude.{◌≡◌, true, ℕ, List, [], ◌∷◌, ◌++◌, Option, None, option_to_list}
use Rattle.cca_base.specs.declared.cube.Pair.{Pair}
use Rattle.cca_base.specs.declared.events.Event.{Event}
use Rattle.cca_base.specs.declared.events.TickReport.{TickReport}
use Rattle.cca_base.specs.Accepted.{CompiledModel, IsCompiled}
use Rattle.cca_base.specs.Orders.{IsSorted}
use Rattle.cca_base.specs.Goals.{IsGoodReply}
use Rattle.cca_base.specs.Choice.{IsChosenReply}
use Rattle.cca_base.specs.Trace.{ExecutiveState, start, MayCome, AllMayCome}
use Rattle.cca_base.specs.Runs.{Ticks, Trace, Within, StaysRight, KeepsPromises}
use Rattle.trace_laws.specs.Events.{Acts, Makes, PendingAfter, mirrored_after}
use Rattle.trace_laws.specs.Fits.{Fits}
use Rattle.trace_laws.specs.Held.{WithinHeld}
use Rattle.cca_base.specs.Plans.{Promising}
use Rattle.trace_laws.specs.Served.{ServesGoals, MeasuresGoals}
use Rattle.trace_laws.specs.Tables.{Cover, Planner, PlansWell, kept, renewed, MakesByTables}

-- right estimates stay right, whichever good replies are given
abbrev pub RightStaysRight : Type 0
RightStaysRight = (b : CompiledModel) (events : List Event) (reports : List TickReport)
    → IsCompiled b → (t : Trace b (IsGoodReply b.model) events reports) → StaysRight b t.ticks

-- the events may come from the start on
abbrev pub EventsMayCome : CompiledModel → List Event → Type 0
EventsMayCome b events = AllMayCome b.model (IsSorted b.order) (start b.model 0) events

-- goals are served within their stated numbers, where the picked commands bring them about
abbrev pub GoalsAreServed : Type 0
GoalsAreServed = (b : CompiledModel) (events : List Event) (reports : List TickReport) → IsCompiled b → ServesGoals b → EventsMayCome b events
    → (t : Trace b (IsChosenReply b) events reports) → Within b t.ticks

-- the same, where each goal has a measure
abbrev pub MeasuredGoalsAreServed : Type 0
MeasuredGoalsAreServed = (b : CompiledModel) (events : List Event) (reports : List TickReport) → IsCompiled b → MeasuresGoals b → EventsMayCome b events
    → (t : Trace b (IsChosenReply b) events reports) → Within b t.ticks

-- the ticks of a trace of promising replies are those of the fixed trace, and they keep the promises
abbrev pub PromisingTracesKeep : Type 0
PromisingTracesKeep = (b : CompiledModel) (events : List Event) (reports : List TickReport) → IsCompiled b → (t : Trace b (Promising b) events reports)
    → Ticks b (IsChosenReply b) (start b.model 0) [] events t.ticks × Within b t.ticks × StaysRight b t.ticks

-- and they serve a goal also where it is set anew to the same pairs
abbrev pub PromisingTracesHold : Type 0
PromisingTracesHold = (b : CompiledModel) (events : List Event) (reports : List TickReport) → IsCompiled b → (t : Trace b (Promising b) events reports) → WithinHeld b t.ticks

-- the fixed trace keeps the promises
abbrev pub PromisesAreKept : Type 0
PromisesAreKept = (b : CompiledModel) (events : List Event) (reports : List TickReport) → IsCompiled b → ServesGoals b → EventsMayCome b events
    → Trace b (IsChosenReply b) events reports → KeepsPromises b (IsChosenReply b) events reports

-- the replies of the fixed trace are good
abbrev pub ChosenIsGood : Type 0
ChosenIsGood = (b : CompiledModel) (events : List Event) (reports : List TickReport) → Trace b (IsChosenReply b) events reports → Trace b (IsGoodReply b.model) events reports

-- events that are made one after the other from the start on give a trace
abbrev pub MadeIsTrace : Type 0
MadeIsTrace = (b : CompiledModel) (events : List Event) (y : ExecutiveState) (reports : List TickReport)
    → Makes b (IsChosenReply b) (start b.model 0) events y reports → Trace b (IsChosenReply b) events reports

-- and the events of a trace are made one after the other
abbrev pub TraceIsMade : Type 0
TraceIsMade = (b : CompiledModel) (events : List Event) (reports : List TickReport)
    → Trace b (IsChosenReply b) events reports → (y : ExecutiveState) × Makes b (IsChosenReply b) (start b.model 0) events y reports

-- one event more
abbrev pub OneMore : Type 0
OneMore = (b : CompiledModel) (x y z : ExecutiveState) (events : List Event) (e : Event) (reports : List TickReport) (report : Option TickReport)
    → Makes b (IsChosenReply b) x events y reports → Acts b (IsChosenReply b) y e z report → Makes b (IsChosenReply b) x (events ++ e ∷ []) z (reports ++ option_to_list report)

-- one event more may come
abbrev pub OneMoreMayCome : Type 0
OneMoreMayCome = (b : CompiledModel) (x y z : ExecutiveState) (events : List Event) (e : Event) (reports : List TickReport) (report : Option TickReport)
    → Makes b (IsChosenReply b) x events y reports → AllMayCome b.model (IsSorted b.order) x events
    → MayCome b.model y.pending y.mirrored e → Acts b (IsChosenReply b) y e z report → AllMayCome b.model (IsSorted b.order) x (events ++ e ∷ [])

-- what is pending and mirrored after an event, and there is one list that is pending at most
abbrev pub KnownAfter : Type 0
KnownAfter = (b : CompiledModel) (x y : ExecutiveState) (e : Event) (report : Option TickReport) → Acts b (IsChosenReply b) x e y report
    → PendingAfter x.pending e y.pending × (y.mirrored ≡ mirrored_after x.mirrored e) × ((other : List Pair) → PendingAfter x.pending e other → other ≡ y.pending)

-- the reports of the first events are the first reports
abbrev pub TracesBegin : Type 0
TracesBegin = (b : CompiledModel) (events more : List Event) (y : ExecutiveState) (reports others : List TickReport) → IsCompiled b
    → Makes b (IsChosenReply b) (start b.model 0) events y reports → Trace b (IsChosenReply b) (events ++ more) others → (rest : List TickReport) × (others ≡ reports ++ rest)

-- what fits the model does so after each event that may come
abbrev pub StaysFitting : Type 0
StaysFitting = (b : CompiledModel) (x y : ExecutiveState) (e : Event) (report : Option TickReport)
    → IsCompiled b → Fits b x → MayCome b.model x.pending x.mirrored e → Acts b (IsChosenReply b) x e y report → Fits b y

-- the start fits the model
abbrev pub StartFits : Type 0
StartFits = (b : CompiledModel) (ticks : ℕ) → IsCompiled b → Fits b (start b.model ticks)

-- the tables that a tick takes cover its estimate
abbrev pub TakenTablesCover : Type 0
TakenTablesCover = (covers : Cover) (base : Option (List ℕ)) (s : List ℕ) → covers s s ≡ true → covers (kept covers base s) s ≡ true

-- where the tables' replies are the chosen ones, an executive that keeps its tables makes the fixed trace
abbrev pub KeptTablesGiveTrace : Type 0
KeptTablesGiveTrace = (b : CompiledModel) (covers : Cover) (planner : Planner) (events : List Event) (y : ExecutiveState) (reports : List TickReport)
    → IsCompiled b → PlansWell b covers planner → EventsMayCome b events
    → MakesByTables b planner (kept covers) (start b.model 0) None events y reports → Trace b (IsChosenReply b) events reports

-- and its reports are those of one that makes its tables anew at each tick
abbrev pub KeptTablesChangeNothing : Type 0
KeptTablesChangeNothing = (b : CompiledModel) (covers : Cover) (planner : Planner) (events : List Event) (y z : ExecutiveState) (reports others : List TickReport)
    → IsCompiled b → PlansWell b covers planner → EventsMayCome b events
    → MakesByTables b planner (kept covers) (start b.model 0) None events y reports
    → MakesByTables b planner renewed (start b.model 0) None events z others → reports ≡ others

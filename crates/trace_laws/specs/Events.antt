-- One event of an executive, and events one after the other.
use Rattle.std.specs.Prelude.{◌≡◌, ℕ, ◌+◌, List, [], ◌∷◌, ◌++◌, Option, Some, None, option_to_list, Contains}
use Rattle.cca_base.specs.declared.cube.Pair.{Pair}
use Rattle.cca_base.specs.declared.events.Event.{Event}
use Rattle.cca_base.specs.declared.events.Event.TheVariants as event
use Rattle.cca_base.specs.declared.events.TickReport.{TickReport}
use Rattle.cca_base.specs.PlantModel.{PlantModel}
use Rattle.cca_base.specs.Accepted.{CompiledModel}
use Rattle.cca_base.specs.Cube.{IsUnion}
use Rattle.cca_base.specs.Sets.{with_number}
use Rattle.cca_base.specs.Orders.{IsSorted}
use Rattle.cca_base.specs.Trace.{ExecutiveState, ReplyRule, GoalOrder, Changes, TickShows}

-- the event is a tick
abbrev pub IsTick : Event → Type 0
IsTick event.Tick = Unit {0}
IsTick (event.Goal pairs) = ⊥
IsTick event.Clear = ⊥
IsTick (event.Observe pairs) = ⊥
IsTick (event.Fault p) = ⊥
IsTick (event.Mirror v) = ⊥
IsTick event.Reset = ⊥

-- a goal is kept as it is given
abbrev pub AsGiven : List Pair → List Pair → Type 0
AsGiven pairs goal = goal ≡ pairs

-- one event leads from x to y; a report comes exactly for a tick
abbrev pub Acts : CompiledModel → ReplyRule → ExecutiveState → Event → ExecutiveState → Option TickReport → Type 0
Acts b answers x e y None = Changes b.model (IsSorted b.order) x e y
Acts b answers x e y (Some report) = IsTick e × (report.tick ≡ x.ticks + 1) × TickShows b.model answers x report.shown y

-- some events, one after the other, lead from x to y with these reports
abbrev pub Makes : CompiledModel → ReplyRule → ExecutiveState → List Event → ExecutiveState → List TickReport → Type 0
Makes b answers x [] y reports = (y ≡ x) × (reports ≡ [])
Makes b answers x (e ∷ events) y reports =
    (z : ExecutiveState) × (report : Option TickReport) × (others : List TickReport)
    × Acts b answers x e z report × Makes b answers z events y others × (reports ≡ option_to_list report ++ others)

-- events that are no ticks lead from x to y
abbrev pub Becomes : PlantModel → GoalOrder → ExecutiveState → List Event → ExecutiveState → Type 0
Becomes m ordering x [] y = y ≡ x
Becomes m ordering x (e ∷ events) y = (z : ExecutiveState) × Changes m ordering x e z × Becomes m ordering z events y

-- ---- what bears on which events may come next

-- what is pending after an event: a tick and a reset leave nothing
abbrev pub PendingAfter : List Pair → Event → List Pair → Type 0
PendingAfter pending (event.Observe pairs) after = IsUnion (Contains pending) (Contains pairs) after
PendingAfter pending event.Tick after = after ≡ []
PendingAfter pending event.Reset after = after ≡ []
PendingAfter pending (event.Goal pairs) after = after ≡ pending
PendingAfter pending event.Clear after = after ≡ pending
PendingAfter pending (event.Fault p) after = after ≡ pending
PendingAfter pending (event.Mirror v) after = after ≡ pending

-- what is mirrored after an event: a reset leaves nothing
abbrev pub mirrored_after : ℕ → Event → ℕ
mirrored_after mirrored (event.Mirror v) = with_number mirrored v
mirrored_after mirrored event.Reset = 0
mirrored_after mirrored event.Tick = mirrored
mirrored_after mirrored (event.Goal pairs) = mirrored
mirrored_after mirrored event.Clear = mirrored
mirrored_after mirrored (event.Observe pairs) = mirrored
mirrored_after mirrored (event.Fault p) = mirrored

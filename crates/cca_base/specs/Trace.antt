-- Where an executive stands, what each event changes, and what a tick shows.
use Rattle.std.specs.Prelude.{◌≡◌, ◌<◌, ℕ, ◌+◌, Bool, true, false, IsTrue, List, [], ◌∷◌, length, Option, Some, None, slice_get, slice_set, All, Contains}
use Rattle.cca_base.specs.declared.cube.Pair.{Pair}
use Rattle.cca_base.specs.declared.model.Variable.{Variable}
use Rattle.cca_base.specs.declared.events.Event.{Event}
use Rattle.cca_base.specs.declared.events.Event.TheVariants as event
use Rattle.cca_base.specs.declared.events.Reply.{Reply}
use Rattle.cca_base.specs.declared.events.Reply.TheVariants.{Idle, Send, Achieved, Unreachable}
use Rattle.cca_base.specs.declared.events.Shown.{Shown}
use Rattle.cca_base.specs.declared.events.Shown.TheVariants.{Estimated, Unexplained, Holding}
use Rattle.cca_base.specs.PlantModel.{PlantModel}
use Rattle.cca_base.specs.Model.{HasMode, is_broken}
use Rattle.cca_base.specs.Sets.{has, with_number}
use Rattle.cca_base.specs.Cube.{IsCube, Lacks, IsUnion}
use Rattle.cca_base.specs.State.{IsWorld, HasValue, start_modes}
use Rattle.cca_base.specs.Successors.{Nominal}
use Rattle.cca_base.specs.Estimates as estimates

-- where an executive stands
pub record ExecutiveState : Type 0 where
  pub estimate : List ℕ
  pub command : Option ℕ
  pub plant : List ℕ
  pub pending : List Pair
  pub mirrored : ℕ
  pub goal : Option (List Pair)
  pub holding : Bool
  pub ticks : ℕ

-- the start, with so many ticks made
abbrev pub start : PlantModel → ℕ → ExecutiveState
start m ticks = record {
  estimate = start_modes m;
  command = None;
  plant = start_modes m;
  pending = [];
  mirrored = 0;
  goal = None;
  holding = false;
  ticks = ticks;
}

-- ---- events

-- the variable is sensed, not mirrored, and without a pending observation
pub record MayBeSeen (m : PlantModel) (pending : List Pair) (mirrored v : ℕ) : Type 0 where
  pub variable : Variable
  pub of_model : slice_get m.variables v ≡ Some variable
  pub sensed : IsTrue variable.sensed
  pub unmirrored : has mirrored v ≡ false
  pub new : Lacks v pending

-- at least one pair, no name twice, and of each component a mode that is not broken
pub record MayBeGoal (m : PlantModel) (pairs : List Pair) : Type 0 where
  pub some : 0 < length pairs
  pub cube : IsCube pairs
  pub modes : All (λ p. HasMode m p.item p.value) pairs
  pub sound : All (λ p. is_broken m.moves p.item p.value ≡ false) pairs

-- at least one pair, no name twice, and a value of each variable, which may be seen
pub record MayBeObserved (m : PlantModel) (pending : List Pair) (mirrored : ℕ) (pairs : List Pair) : Type 0 where
  pub some : 0 < length pairs
  pub cube : IsCube pairs
  pub values : All (λ p. HasValue m p.item p.value) pairs
  pub seen : All (λ p. MayBeSeen m pending mirrored p.item) pairs

-- the event may come, with these pending observations and these mirrored variables
abbrev pub MayCome : PlantModel → List Pair → ℕ → Event → Type 0
MayCome m pending mirrored (event.Goal pairs) = MayBeGoal m pairs
MayCome m pending mirrored event.Clear = Unit {0}
MayCome m pending mirrored (event.Observe pairs) = MayBeObserved m pending mirrored pairs
MayCome m pending mirrored (event.Fault p) = HasMode m p.item p.value
MayCome m pending mirrored (event.Mirror v) = MayBeSeen m pending mirrored v
MayCome m pending mirrored event.Reset = Unit {0}
MayCome m pending mirrored event.Tick = Unit {0}

-- how a goal is kept: as which list of the given pairs
abbrev pub GoalOrder : Type 1
GoalOrder = List Pair → List Pair → Type 0

-- an event that is not a tick changes its one part; a reset gives the start again, with the ticks that were made
abbrev pub Changes : PlantModel → GoalOrder → ExecutiveState → Event → ExecutiveState → Type 0
Changes m ordering x (event.Goal pairs) y = (goal : List Pair) × ordering pairs goal × (y ≡ record x { goal = Some goal })
Changes m ordering x event.Clear y = y ≡ record x { goal = None }
Changes m ordering x (event.Observe pairs) y = (both : List Pair) × IsUnion (Contains x.pending) (Contains pairs) both × (y ≡ record x { pending = both })
Changes m ordering x (event.Fault p) y = y ≡ record x { plant = slice_set x.plant p.item p.value }
Changes m ordering x (event.Mirror v) y = y ≡ record x { mirrored = with_number x.mirrored v }
Changes m ordering x event.Reset y = y ≡ start m x.ticks
Changes m ordering x event.Tick y = ⊥

-- the events may come one after the other; a tick leaves no pending observations
abbrev pub AllMayCome : PlantModel → GoalOrder → ExecutiveState → List Event → Type 0
AllMayCome m ordering x [] = Unit {0}
AllMayCome m ordering x (event.Tick ∷ events) = AllMayCome m ordering (record x { pending = [] }) events
AllMayCome m ordering x (e ∷ events) =
    MayCome m x.pending x.mirrored e × (y : ExecutiveState) × Changes m ordering x e y × AllMayCome m ordering y events

-- ---- ticks

-- the variable has the value in every world of the plant's state
abbrev pub HasOneValue : PlantModel → List ℕ → Pair → Type 0
HasOneValue m plant p = (w : List ℕ) → IsWorld m plant w → slice_get w p.item ≡ Some p.value

-- what a tick observes: what is pending, and the mirrored variables that have one value
abbrev pub Observed : PlantModel → ExecutiveState → List Pair → Type 0
Observed m x seen = IsUnion (Contains x.pending) (λ p. IsTrue (has x.mirrored p.item) × HasOneValue m x.plant p) seen

-- the command that a reply sends
abbrev pub command_of : Reply → Option ℕ
command_of (Send k) = Some k
command_of Idle = None
command_of Achieved = None
command_of (Unreachable c mode) = None

-- which replies a state and a goal may get
abbrev pub ReplyRule : Type 1
ReplyRule = List ℕ → List Pair → Reply → Type 0

-- the reply is idle without a goal, and with a goal it is one that may be given
abbrev pub IsReply : ReplyRule → List ℕ → Option (List Pair) → Reply → Type 0
IsReply answers s None reply = reply ≡ Idle
IsReply answers s (Some goal) reply = answers s goal reply

-- a tick with an estimate, from x to y: the estimate is that of what is observed, and a command that is sent moves the plant
pub record ShowsEstimate (m : PlantModel) (answers : ReplyRule) (x : ExecutiveState) (cost : ℕ) (state : List ℕ) (reply : Reply) (y : ExecutiveState) : Type 0 where
  pub going : x.holding ≡ false
  pub seen : List Pair
  pub observed : Observed m x seen
  pub estimate : estimates.Estimate m x.estimate x.command seen state cost
  pub replies : IsReply answers state x.goal reply
  pub plant : List ℕ
  pub moves : Nominal m x.plant (command_of reply) plant
  pub after : y ≡ record x { estimate = state; command = command_of reply; plant = plant; pending = []; ticks = x.ticks + 1 }

-- a tick without an estimate, from x to y: no state explains what is observed, and from then on the executive is holding
pub record ShowsUnexplained (m : PlantModel) (x y : ExecutiveState) : Type 0 where
  pub going : x.holding ≡ false
  pub seen : List Pair
  pub observed : Observed m x seen
  pub unexplained : estimates.Unexplained m x.estimate x.command seen
  pub after : y ≡ record x { command = None; pending = []; holding = true; ticks = x.ticks + 1 }

-- what a tick shows, from x to y; while holding it shows that alone
abbrev pub TickShows : PlantModel → ReplyRule → ExecutiveState → Shown → ExecutiveState → Type 0
TickShows m answers x (Estimated cost state reply) y = ShowsEstimate m answers x cost state.modes reply y
TickShows m answers x Unexplained y = ShowsUnexplained m x y
TickShows m answers x Holding y = IsTrue x.holding × (y ≡ record x { pending = []; ticks = x.ticks + 1 })

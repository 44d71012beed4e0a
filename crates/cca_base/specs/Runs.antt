-- Whole runs: the ticks of a list of events, and what they keep.
use Rattle.std.specs.Prelude.{◌≡◌, ◌⊎◌, ℕ, ◌+◌, ◌<◌, ◌≤◌, Bool, true, false, List, [], ◌∷◌, ◌++◌, length, map, Option, Some, None, slice_get, slice_range, All, count_by}
use Rattle.cca_base.specs.declared.cube.Pair.{Pair}
use Rattle.cca_base.specs.declared.events.Event.{Event}
use Rattle.cca_base.specs.declared.events.Event.TheVariants as event
use Rattle.cca_base.specs.declared.events.Reply.{Reply}
use Rattle.cca_base.specs.declared.events.Reply.TheVariants.{Idle, Send, Achieved, Unreachable}
use Rattle.cca_base.specs.declared.events.Shown.{Shown}
use Rattle.cca_base.specs.declared.events.Shown.TheVariants.{Estimated, Unexplained, Holding}
use Rattle.cca_base.specs.declared.events.TickReport.{TickReport}
use Rattle.cca_base.specs.PlantModel.{PlantModel}
use Rattle.cca_base.specs.Accepted.{CompiledModel, IsCompiled}
use Rattle.cca_base.specs.State.{IsWorld, Extends}
use Rattle.cca_base.specs.Orders.{IsSorted}
use Rattle.cca_base.specs.Bounds.{stated_number}
use Rattle.cca_base.specs.Trace.{ExecutiveState, start, ReplyRule, Changes, TickShows, Observed}

-- a tick: the events since the tick before it, where the executive stood, and what was reported
pub record TickRecord : Type 0 where
  pub since : List Event
  pub before : ExecutiveState
  pub report : TickReport

-- from x on, the events give these ticks; the events since the last tick are carried along
abbrev pub Ticks : CompiledModel → ReplyRule → ExecutiveState → List Event → List Event → List TickRecord → Type 0
Ticks b answers x since [] ticks = ticks ≡ []
Ticks b answers x since (event.Tick ∷ events) [] = ⊥
Ticks b answers x since (event.Tick ∷ events) (t ∷ ticks) =
    (t.since ≡ since) × (t.before ≡ x) × (t.report.tick ≡ x.ticks + 1)
    × (y : ExecutiveState) × TickShows b.model answers x t.report.shown y × Ticks b answers y [] events ticks
Ticks b answers x since (e ∷ events) ticks =
    (y : ExecutiveState) × Changes b.model (IsSorted b.order) x e y × Ticks b answers y (since ++ e ∷ []) events ticks

-- the reports are those of the ticks that the events give from the start on
pub record Trace (b : CompiledModel) (answers : ReplyRule) (events : List Event) (reports : List TickReport) : Type 0 where
  pub ticks : List TickRecord
  pub made : Ticks b answers (start b.model 0) [] events ticks
  pub reported : reports ≡ map (λ t. t.report) ticks

-- ---- what a tick shows

-- the reply that is shown, if there is one
abbrev pub reply_of : Shown → Option Reply
reply_of (Estimated cost state reply) = Some reply
reply_of Unexplained = None
reply_of Holding = None

-- the reply of a tick, if there is one
abbrev pub reply_at : TickRecord → Option Reply
reply_at t = reply_of t.report.shown

-- the reply is a command
abbrev pub is_send : Option Reply → Bool
is_send (Some (Send k)) = true
is_send (Some Idle) = false
is_send (Some Achieved) = false
is_send (Some (Unreachable c mode)) = false
is_send None = false

-- the reply says that a pair cannot be reached
abbrev pub is_unreachable : Option Reply → Bool
is_unreachable (Some (Unreachable c mode)) = true
is_unreachable (Some (Send k)) = false
is_unreachable (Some Idle) = false
is_unreachable (Some Achieved) = false
is_unreachable None = false

-- what is shown has this estimate
abbrev pub HasEstimate : Shown → List ℕ → Type 0
HasEstimate (Estimated cost state reply) s = state.modes ≡ s
HasEstimate Unexplained s = ⊥
HasEstimate Holding s = ⊥

-- the estimate is the plant's state, as it was before the tick's command
abbrev pub IsRight : TickRecord → Type 0
IsRight t = HasEstimate t.report.shown t.before.plant

-- what is shown has an estimate of cost 0
abbrev pub CostsNothing : Shown → Type 0
CostsNothing (Estimated cost state reply) = cost ≡ 0
CostsNothing Unexplained = ⊥
CostsNothing Holding = ⊥

-- ---- events between ticks

-- the event is no fault and no reset
abbrev pub LeavesPlantAlone : Event → Type 0
LeavesPlantAlone (event.Fault p) = ⊥
LeavesPlantAlone event.Reset = ⊥
LeavesPlantAlone e = Unit {0}

-- the event is no fault and no reset, and sets and clears no goal
abbrev pub LeavesPlantAndGoalAlone : Event → Type 0
LeavesPlantAndGoalAlone (event.Goal pairs) = ⊥
LeavesPlantAndGoalAlone event.Clear = ⊥
LeavesPlantAndGoalAlone e = LeavesPlantAlone e

-- ---- what stretches of ticks keep

-- the ticks from i to j
abbrev pub stretch : List TickRecord → ℕ → ℕ → List TickRecord
stretch ticks i j = slice_range ticks i (j + 1)

-- ticks i to j have one goal and right estimates, no event between them changes the goal or the plant, and the first does not say unreachable
pub record IsStretch (ticks : List TickRecord) (goal : List Pair) (i j : ℕ) : Type 0 where
  pub rising : i ≤ j
  pub within : j < length ticks
  pub goals : All (λ t. t.before.goal ≡ Some goal) (stretch ticks i j)
  pub quiet : All (λ t. All LeavesPlantAndGoalAlone t.since) (stretch ticks (i + 1) j)
  pub right : All IsRight (stretch ticks i j)
  pub reachable : (t : TickRecord) → slice_get ticks i ≡ Some t → is_unreachable (reply_at t) ≡ false

-- none says unreachable; so many commands at most are sent, and none after the goal was achieved; after so many ticks it stays achieved
pub record ServesGoal (number : ℕ) (ticks : List TickRecord) (i j : ℕ) : Type 0 where
  pub reached : All (λ t. is_unreachable (reply_at t) ≡ false) (stretch ticks i j)
  pub few : count_by (λ t. is_send (reply_at t)) (stretch ticks i j) ≤ number
  pub stays : (first later : ℕ) (t u : TickRecord) → i ≤ first → first < later → later ≤ j → slice_get ticks first ≡ Some t → slice_get ticks later ≡ Some u
      → reply_at t ≡ Some Achieved → is_send (reply_at u) ≡ false
  pub stands : (late : ℕ) (t : TickRecord) → i + number ≤ late → late ≤ j → slice_get ticks late ≡ Some t → reply_at t ≡ Some Achieved

-- in each stretch the goal is served within its stated number of commands
abbrev pub Within : CompiledModel → List TickRecord → Type 0
Within b ticks = (goal : List Pair) (i j : ℕ) → IsStretch ticks goal i j → ServesGoal (stated_number b.bounds goal) ticks i j

-- the tick is the first at all or the first since a reset, and no fault came since the start or the reset
abbrev pub StartsAnew : ℕ → List Event → Type 0
StartsAnew i since =
    ((i ≡ 0) × All LeavesPlantAlone since)
    ⊎ ((before after : List Event) × (since ≡ before ++ event.Reset ∷ after) × All LeavesPlantAlone after)

-- the tick before was right, and no fault or reset came since
abbrev pub ComesAfterRight : List TickRecord → ℕ → List Event → Type 0
ComesAfterRight ticks i since = (last : ℕ) × (t : TickRecord) × (i ≡ last + 1) × (slice_get ticks last ≡ Some t) × IsRight t × All LeavesPlantAlone since

-- some world of the plant's state agrees with what the tick observes
abbrev pub CanBeSeen : PlantModel → TickRecord → Type 0
CanBeSeen m t = (seen w : _) × Observed m t.before seen × IsWorld m t.before.plant w × Extends w seen

-- a tick that starts anew or comes after a right one is right and costs nothing, where the plant can show what is observed
abbrev pub StaysRight : CompiledModel → List TickRecord → Type 0
StaysRight b ticks = (i : ℕ) (t : TickRecord) → slice_get ticks i ≡ Some t → (StartsAnew i t.since ⊎ ComesAfterRight ticks i t.since)
    → CanBeSeen b.model t → IsRight t × CostsNothing t.report.shown

-- a trace of a compiled model in which goals are served within their stated numbers, and right estimates stay right
pub record KeepsPromises (b : CompiledModel) (answers : ReplyRule) (events : List Event) (reports : List TickReport) : Type 0 where
  pub compiled : IsCompiled b
  pub trace : Trace b answers events reports
  pub within : Within b trace.ticks
  pub stays_right : StaysRight b trace.ticks

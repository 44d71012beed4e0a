-- Which events a control program puts in before ticks, by what was reported, and behind which ticks it has ended.
use Rattle.std.specs.Prelude.{◌≡◌, ◌&&◌, ℕ, Bool, true, false, is_some, is_none, List, [], ◌∷◌, ◌++◌, Option, Some, None, option_to_list}
use Rattle.cca_base.specs.declared.cube.Pair.{Pair}
use Rattle.cca_base.specs.declared.events.Event.{Event}
use Rattle.cca_base.specs.declared.events.Event.TheVariants as event
use Rattle.cca_base.specs.declared.events.Shown.{Shown}
use Rattle.cca_base.specs.declared.events.Shown.TheVariants.{Estimated, Unexplained, Holding}
use Rattle.cca_base.specs.declared.events.TickReport.{TickReport}
use Rattle.cca_base.specs.PlantModel.{PlantModel}
use Rattle.cca_base.specs.State.{start_modes}
use Rattle.control_laws.specs.Rest.{Rest}
use Rattle.control_laws.specs.Turns.{Control, TurnsBy, fresh}
use Rattle.trace_laws.specs.Events.{IsTick}

-- a program with what is left of it, the executive's last estimate, and whether its last report since the start or the last reset was unexplained or holding
pub record Sequencer : Type 0 where
  pub control : Control
  pub estimate : List ℕ
  pub holding : Bool

-- at the start, and behind a reset
abbrev pub at_start : PlantModel → Rest → Sequencer
at_start m program = record { control = fresh program; estimate = start_modes m; holding = false }

-- a report, and whether the program has ended in the turn before its tick
pub record Told : Type 0 where
  pub report : TickReport
  pub ended : Bool

-- ---- one event

-- the event that sets a goal, or clears it where the goal has no pair
abbrev pub asks : List Pair → Event
asks [] = event.Clear
asks (p ∷ pairs) = event.Goal (p ∷ pairs)

-- before a tick the program has a turn with the last estimate, and its goal is set; while the executive is holding there is none
abbrev pub TurnsBefore : Bool → PlantModel → Sequencer → Option Event → Control → Type 0
TurnsBefore true m x put next = (put ≡ None) × (next ≡ x.control)
TurnsBefore false m x put next = (goal : List Pair) × TurnsBy m x.estimate x.control goal next × (put ≡ Some (asks goal))

-- what is left of the program behind an event that is no tick: a reset begins it again
abbrev pub left_by : Event → Control → Control
left_by event.Reset c = fresh c.program
left_by event.Tick c = c
left_by (event.Goal pairs) c = c
left_by event.Clear c = c
left_by (event.Observe pairs) c = c
left_by (event.Fault p) c = c
left_by (event.Mirror v) c = c

-- which event is put in before an event, and what is left of the program behind it: before a tick stands a turn, and before any other event nothing
abbrev pub PutsBefore : PlantModel → Event → Sequencer → Option Event → Control → Type 0
PutsBefore m event.Tick x put next = TurnsBefore x.holding m x put next
PutsBefore m event.Reset x put next = (put ≡ None) × (next ≡ left_by event.Reset x.control)
PutsBefore m (event.Goal pairs) x put next = (put ≡ None) × (next ≡ left_by (event.Goal pairs) x.control)
PutsBefore m event.Clear x put next = (put ≡ None) × (next ≡ left_by event.Clear x.control)
PutsBefore m (event.Observe pairs) x put next = (put ≡ None) × (next ≡ left_by (event.Observe pairs) x.control)
PutsBefore m (event.Fault p) x put next = (put ≡ None) × (next ≡ left_by (event.Fault p) x.control)
PutsBefore m (event.Mirror v) x put next = (put ≡ None) × (next ≡ left_by (event.Mirror v) x.control)

-- something was left before, and nothing is left now
abbrev pub ends : Control → Control → Bool
ends x y = is_some x.left && is_none y.left

-- what is told of an event: of a tick its report, and whether the program has ended before it; nothing of any other event
abbrev pub IsToldOf : Event → Control → Control → Option Told → Type 0
IsToldOf e before next (Some told) = IsTick e × (told.ended ≡ ends before next)
IsToldOf e before next None = IsTick e → ⊥

-- the last estimate behind a report
abbrev pub estimate_after : List ℕ → Shown → List ℕ
estimate_after last (Estimated cost state reply) = state.modes
estimate_after last Unexplained = last
estimate_after last Holding = last

-- whether what is shown is unexplained or holding
abbrev pub is_holding : Shown → Bool
is_holding (Estimated cost state reply) = false
is_holding Unexplained = true
is_holding Holding = true

-- where an event that is no tick leads
abbrev pub behind_event : PlantModel → Event → Sequencer → Sequencer
behind_event m event.Reset x = at_start m x.control.program
behind_event m event.Tick x = x
behind_event m (event.Goal pairs) x = x
behind_event m event.Clear x = x
behind_event m (event.Observe pairs) x = x
behind_event m (event.Fault p) x = x
behind_event m (event.Mirror v) x = x

-- where an event leads: a report shows the estimate, and what is left of the program is what its turn has left
abbrev pub behind : PlantModel → Event → Sequencer → Control → Option Told → Sequencer
behind m e x next (Some told) = record { control = next; estimate = estimate_after x.estimate told.report.shown; holding = is_holding told.report.shown }
behind m e x next None = behind_event m e x

-- ---- events one after the other

-- from x on, the events of the lines, with those put in, are these, and this is told of the ticks
abbrev pub PutIn : PlantModel → Sequencer → List Event → List Event → List Told → Type 0
PutIn m x [] full told = (full ≡ []) × (told ≡ [])
PutIn m x (e ∷ events) full told =
    (put : Option Event) × (next : Control) × (own : Option Told) × (rest : List Event) × (others : List Told)
    × PutsBefore m e x put next × IsToldOf e x.control next own × PutIn m (behind m e x next own) events rest others
    × (full ≡ option_to_list put ++ e ∷ rest) × (told ≡ option_to_list own ++ others)

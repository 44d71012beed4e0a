-- What is no excuse for a wrong estimate, and what it is to be right.
use Rattle.std.specs.Prelude.{ℕ, List, [], ◌∷◌, Some, None}
use Rattle.cca_base.specs.declared.cube.Pair.{Pair}
use Rattle.cca_base.specs.declared.events.Event.TheVariants as event
use Rattle.cca_base.specs.declared.events.Reply.TheVariants.{Idle, Send}
use Rattle.cca_base.specs.declared.events.Shown.TheVariants.{Estimated}
use Rattle.cca_base.specs.Trace.{ExecutiveState, start}
use Rattle.cca_base.specs.Runs.{TickRecord, StaysRight}
use Rattle.cca_laws.specs.ValveExamples.{valve_model}
use Rattle.cca_laws.specs.CauseExamples.{open_wanted}
use Rattle.cca_laws.specs.MirrorExamples.{some_flow}
use Rattle.cca_laws.specs.MoreExamples.{right_moment}

-- the ticks break the promise of the valve's model, however it is compiled
abbrev pub BreaksPromise : List TickRecord → Type 0
BreaksPromise ticks = (ways : List (List (List Pair))) (order bounds : List ℕ)
    → StaysRight (record { model = valve_model; ways = ways; order = order; bounds = bounds }) ticks → ⊥

-- ---- changes of the goal

-- a tick at the start, once the valve is to be open; it takes the valve to be stuck
abbrev pub wrong_with_goal : TickRecord
wrong_with_goal = record {
  since = event.Goal open_wanted ∷ [];
  before = record (start valve_model 0) { goal = Some open_wanted };
  report = record { tick = 1; shown = Estimated 4 (record { modes = 0 ∷ 2 ∷ [] }) (Send 0) };
}

-- a new goal does not excuse a wrong first tick
abbrev pub NewGoalIsNoExcuse : Type 0
NewGoalIsNoExcuse = BreaksPromise (wrong_with_goal ∷ [])

-- the same tick behind a reset and then the goal
abbrev pub wrong_behind_reset : TickRecord
wrong_behind_reset = record wrong_with_goal { since = event.Reset ∷ event.Goal open_wanted ∷ [] }

-- nor does a new goal behind a reset
abbrev pub GoalBehindResetIsNoExcuse : Type 0
GoalBehindResetIsNoExcuse = BreaksPromise (wrong_behind_reset ∷ [])

-- the same tick as the second one
abbrev pub wrong_second : TickRecord
wrong_second = record wrong_with_goal {
  before = record (start valve_model 1) { goal = Some open_wanted };
  report = record { tick = 2; shown = Estimated 4 (record { modes = 0 ∷ 2 ∷ [] }) (Send 0) };
}

-- nor does the goal excuse a wrong tick after a right one
abbrev pub GoalBetweenIsNoExcuse : Type 0
GoalBetweenIsNoExcuse = BreaksPromise (right_moment ∷ wrong_second ∷ [])

-- the first tick under the goal, which is right and sends the driver on
abbrev pub driver_moment : TickRecord
driver_moment = record wrong_with_goal {
  report = record { tick = 1; shown = Estimated 0 (record { modes = 0 ∷ 0 ∷ [] }) (Send 0) };
}

-- then the plant's driver is on, and the last estimate is that it was off
abbrev pub driver_started : List Pair → ExecutiveState
driver_started goal = record (start valve_model 1) { command = Some 0; plant = 1 ∷ 0 ∷ []; goal = Some goal }

-- the second tick, after the goal was cleared; it takes the valve to be stuck
abbrev pub wrong_when_cleared : TickRecord
wrong_when_cleared = record {
  since = event.Clear ∷ [];
  before = record (driver_started open_wanted) { goal = None };
  report = record { tick = 2; shown = Estimated 4 (record { modes = 1 ∷ 2 ∷ [] }) Idle };
}

-- neither is it an excuse that the goal was cleared
abbrev pub ClearIsNoExcuse : Type 0
ClearIsNoExcuse = BreaksPromise (driver_moment ∷ wrong_when_cleared ∷ [])

-- ---- what it is to be right

-- the first tick, right and yet at a cost
abbrev pub dear_moment : TickRecord
dear_moment = record right_moment {
  report = record { tick = 1; shown = Estimated 4 (record { modes = 0 ∷ 0 ∷ [] }) Idle };
}

-- it breaks the promise: what has to be right has to cost nothing
abbrev pub RightIsFree : Type 0
RightIsFree = BreaksPromise (dear_moment ∷ [])

-- the second tick, with this estimate and this command
abbrev pub second_moment : List ℕ → ℕ → TickRecord
second_moment modes k = record {
  since = [];
  before = driver_started open_wanted;
  report = record { tick = 2; shown = Estimated 0 (record { modes = modes }) (Send k) };
}

-- it breaks the promise to estimate once more that the driver is off: the plant's is on
abbrev pub LastEstimateIsWrong : Type 0
LastEstimateIsWrong = BreaksPromise (driver_moment ∷ second_moment (0 ∷ 0 ∷ []) 0 ∷ [])

-- the third tick: the plant's valve is open, and there is flow; the tick takes it to be stuck, without flow
abbrev pub stuck_moment : TickRecord
stuck_moment = record {
  since = event.Observe some_flow ∷ [];
  before = record (start valve_model 2) {
    estimate = 1 ∷ 0 ∷ [];
    command = Some 2;
    plant = 1 ∷ 1 ∷ [];
    pending = some_flow;
    goal = Some open_wanted;
  };
  report = record { tick = 3; shown = Estimated 4 (record { modes = 1 ∷ 2 ∷ [] }) (Send 4) };
}

-- what the plant can show counts, also where neither the last estimate nor the new one can
abbrev pub PlantIsSeen : Type 0
PlantIsSeen = BreaksPromise (driver_moment ∷ second_moment (1 ∷ 0 ∷ []) 2 ∷ stuck_moment ∷ [])

-- What a tracker is seen as, and what its calls answer.
use Rattle.std.specs.Prelude.{◌≡◌, ℕ, Bool, List, map}
use Rattle.cca_base.specs.Accepted.{CompiledModel}
use Rattle.cca_base.specs.declared.state.State.{State}
use Rattle.trajectory_estimator.specs.Asked.{entry_of, modes_of}
use Rattle.trajectory_estimator.specs.declared.record.Record.{Record}
use Rattle.trajectory_estimator.specs.declared.window.Window.{Window}
use Rattle.trajectory_estimator.specs.declared.window.Window.TheVariants as windows
use Rattle.window_laws.specs.Ticks.{Answer, Found, Unexplained, Holding, Ticks, TrackerState, start}
use Rattle.window_laws.specs.Trajectories.{Entry}

-- a compiled model, and where its tracker stands
pub record Tracked : Type 0 where
  pub compiled : CompiledModel
  pub state : TrackerState

-- where a tracker stands that has these parts
abbrev pub stands : State → List Record → List State → ℕ → Bool → TrackerState
stands anchor records last ticks holding = record { anchor = anchor.modes; records = map entry_of records; last = modes_of last; ticks = ticks; holding = holding }

-- at the start, with so many ticks made
abbrev pub tracked_start : CompiledModel → ℕ → Tracked
tracked_start b ticks = record { compiled = b; state = start b.model ticks }

-- what a tick answers, as a value
abbrev pub answer_of : Window → Answer
answer_of (windows.Found path revised) = Found (modes_of path.states) path.cost revised
answer_of windows.Unexplained = Unexplained
answer_of windows.Holding = Holding

-- a tick of the tracker, which goes from x to y; its model stays
pub record TicksBy (x : Tracked) (entry : Entry) (y : Tracked) (answer : Window) : Type 0 where
  pub compiled : y.compiled ≡ x.compiled
  pub ticks : Ticks x.compiled.model x.state entry y.state (answer_of answer)

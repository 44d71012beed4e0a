-- The window of a tracker's next tick.
use Rattle.std.specs.Prelude.{◌≡◌, ◌≤◌, length, map, All}
use Rattle.cca_base.specs.PlantModel.{PlantModel}
use Rattle.cca_base.specs.State.{IsState}
use Rattle.trajectory_estimator.specs.Asked.{AreValues, entry_of}
use Rattle.trajectory_estimator.specs.declared.record.TheConstants.{MAX_WINDOW}
use Rattle.trajectory_estimator.specs.declared.next_window.NextWindow.{NextWindow}
use Rattle.window_laws.specs.Ticks.{TrackerState, going, next_anchor, next_records}
use Rattle.window_laws.specs.Trajectories.{Entry}

-- the window of the tracker's next tick, of which this is known
pub record IsNextWindow (x : TrackerState) (entry : Entry) (w : NextWindow) : Type 0 where
  pub gone : w.gone ≡ going x
  pub anchor : w.anchor.modes ≡ next_anchor x
  pub records : map entry_of w.records ≡ next_records x entry

-- a window that begins in a state of the model, with a few records that have values of it
pub record IsWindowIn (m : PlantModel) (w : NextWindow) : Type 0 where
  pub state : IsState m w.anchor.modes
  pub few : length w.records ≤ MAX_WINDOW
  pub values : All (AreValues m) (map entry_of w.records)

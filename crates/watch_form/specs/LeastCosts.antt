-- What each printed line of a window says of its cost.
use Rattle.std.specs.Prelude.{◌≡◌, ◌⊎◌, ◌≤◌, ◌+◌, ℕ, false, List, [], ◌∷◌, ◌++◌, flat_map, length, slice_get, Option, Some}
use Rattle.cca_base.specs.PlantModel.{PlantModel}
use Rattle.cca_base.specs.State.{IsState}
use Rattle.cca_base.specs.declared.events.Shown.TheVariants as shown
use Rattle.model_form.specs.Answers.{Answer, Saying, IsAnswer}
use Rattle.model_form.specs.LinesEnds.{ending}
use Rattle.trace_text.specs.Reports.{report_line}
use Rattle.trace_text.specs.WindowLines.{window_line}
use Rattle.window_laws.specs.LatestTicks.{AnswersBefore, AreSince, AreLatest, IsAnchorOf, ticks_among}
use Rattle.window_laws.specs.Ticks.{Numbered, TrackerCall, Tick}
use Rattle.window_laws.specs.Trajectories.{Entry, Trajectory}
use Rattle.watch_form.specs.Calls.{Calls, ReadsCalls, nothing_pending}

-- a trajectory of this cost from the anchor over the records ends in the state, and every other one costs as much at least
pub record IsLeastTo (m : PlantModel) (anchor : List ℕ) (records : List Entry) (s : List ℕ) (cost : ℕ) : Type 0 where
  pub before : List (List ℕ)
  pub trajectory : Trajectory m anchor records (before ++ s ∷ []) cost
  pub least : (other : List (List ℕ)) (more : ℕ) → Trajectory m anchor records other more → cost ≤ more

-- the line of a window, whose tick is the last of these calls: its records are those of so many last ticks since the last reset or the start, its anchor is the start modes, or the
-- first state of the answer to the tick before once ticks are gone, and from there the printed state is reached over them at the printed cost, and none at less
pub record TellsWindow (m : PlantModel) (calls : List TrackerCall) (tick : ℕ) (line : List ℕ) : Type 0 where
  pub ticks : List Entry
  pub since : AreSince calls ticks
  pub records : List Entry
  pub latest : AreLatest ticks records
  pub anchor : List ℕ
  pub state : IsState m anchor
  pub answers : List Numbered
  pub before : AnswersBefore m ticks answers
  pub begins : IsAnchorOf m ticks answers anchor
  pub modes : List ℕ
  pub cost : ℕ
  pub least : IsLeastTo m anchor records modes cost
  pub revised : Option ℕ
  pub is : line ≡ window_line m tick (length records) cost modes revised

-- the line of a tick: of its window, or of a tick that has no trajectory
abbrev pub TellsTick : PlantModel → List TrackerCall → ℕ → List ℕ → Type 0
TellsTick m calls tick line =
    TellsWindow m calls tick line ⊎ ((line ≡ report_line m (record { tick = tick; shown = shown.Unexplained })) ⊎ (line ≡ report_line m (record { tick = tick; shown = shown.Holding })))

-- there is one line for each tick among the calls, in their order
pub record TellsTicks (m : PlantModel) (calls : List TrackerCall) (lines : List (List ℕ)) : Type 0 where
  pub all : length lines ≡ ticks_among calls
  pub each : (front back : List TrackerCall) (entry : Entry) → calls ≡ front ++ (Tick entry ∷ back)
      → (line : List ℕ) × (slice_get lines (ticks_among front) ≡ Some line) × TellsTick m (front ++ Tick entry ∷ []) (ticks_among front + 1) line

-- what is printed of the lines behind the line `script`: the lines of the ticks that they call for, and a refusal's line last
abbrev pub SaysLeast : Saying
SaysLeast b n ls e text =
    (r : Calls) × (lines : List (List ℕ)) × ReadsCalls b.model nothing_pending n ls r × TellsTicks b.model r.items lines
    × (e ≡ (ending b.model r.ending).end) × (text ≡ flat_map (λ line. line) lines ++ (ending b.model r.ending).text)

-- what is printed for an input: that its model is refused; or the lines of the ticks that are called for behind it, each with a least cost where it tells of a window
abbrev pub TellsLeast : List ℕ → Answer → Type 0
TellsLeast input a = IsAnswer false SaysLeast input a.end a.text

-- What a tracker does at a tick.
use Rattle.std.specs.Prelude.{◌≡◌, ◌≢◌, ◌<◌, ◌≤◌, ◌+◌, ◌-◌, ℕ, Bool, true, false, suc, nat_lt, if◌then◌else◌, List, [], ◌∷◌, ◌++◌, length, drop, slice_get, slice_index_or, Option, Some, None}
use Rattle.cca_base.specs.PlantModel.{PlantModel}
use Rattle.cca_base.specs.State.{IsState, start_modes}
use Rattle.window_laws.specs.Trajectories.{Entry, Best, NoTrajectory}

-- the most records that stay open
abbrev pub window : ℕ
window = 8

-- a tracker: where its window begins, the open records, the states of the last best trajectory, how many ticks were made, and whether it is holding
pub record TrackerState : Type 0 where
  pub anchor : List ℕ
  pub records : List Entry
  pub last : List (List ℕ)
  pub ticks : ℕ
  pub holding : Bool

-- a tracker at the start, with so many ticks made
abbrev pub start : PlantModel → ℕ → TrackerState
start m ticks = record { anchor = start_modes m; records = []; last = []; ticks = ticks; holding = false }

-- how many records go at the next tick: the oldest one of a full window
abbrev pub going : TrackerState → ℕ
going x = suc (length x.records) - window

-- where the next window begins: where a record goes, at the first state of the last best trajectory
abbrev pub next_anchor : TrackerState → List ℕ
next_anchor x = if nat_lt (length x.records) window then x.anchor else slice_index_or x.last 0 x.anchor

-- the records of the next window
abbrev pub next_records : TrackerState → Entry → List Entry
next_records x entry = drop (going x) x.records ++ entry ∷ []

-- two lists of states begin at this tick: the first tick at which both have a state, and not the same
abbrev pub IsRevised : ℕ → List (List ℕ) → List (List ℕ) → Option ℕ → Type 0
IsRevised tick old new None = (i : ℕ) (s t : List ℕ) → slice_get old i ≡ Some s → slice_get new i ≡ Some t → s ≡ t
IsRevised tick old new (Some revised) =
    (i : ℕ) × (s t : List ℕ) × (revised ≡ tick + i) × (slice_get old i ≡ Some s) × (slice_get new i ≡ Some t) × (s ≢ t)
    × ((j : ℕ) (u v : List ℕ) → j < i → slice_get old j ≡ Some u → slice_get new j ≡ Some v → u ≡ v)

-- what a tick answers
pub data Answer : Type 0 where
  Found : (states : List (List ℕ)) → (cost : ℕ) → (revised : Option ℕ) → Answer
  Unexplained : Answer
  Holding : Answer

-- the best trajectory of the next window is found
pub record FindsBest (m : PlantModel) (x : TrackerState) (entry : Entry) (y : TrackerState) (states : List (List ℕ)) (cost : ℕ) (revised : Option ℕ) : Type 0 where
  pub awake : x.holding ≡ false
  pub best : Best m (next_anchor x) (next_records x entry) states cost
  pub revises : IsRevised (x.ticks + 2 - length (next_records x entry)) (drop (going x) x.last) states revised
  pub after : y ≡ record { anchor = next_anchor x; records = next_records x entry; last = states; ticks = x.ticks + 1; holding = false }

-- a tick of the tracker
abbrev pub Ticks : PlantModel → TrackerState → Entry → TrackerState → Answer → Type 0
Ticks m x entry y (Found states cost revised) = FindsBest m x entry y states cost revised
Ticks m x entry y Unexplained = (x.holding ≡ false) × NoTrajectory m (next_anchor x) (next_records x entry) × (y ≡ record x { ticks = x.ticks + 1; holding = true })
Ticks m x entry y Holding = (x.holding ≡ true) × (y ≡ record x { ticks = x.ticks + 1 })

-- the anchor is a state, the window is no longer than it may be, and unless it is holding the last trajectory is the best of the window
pub record KeepsBest (m : PlantModel) (x : TrackerState) : Type 0 where
  pub anchor : IsState m x.anchor
  pub few : length x.records ≤ window
  pub best : x.holding ≡ false → (cost : ℕ) × Best m x.anchor x.records x.last cost

-- ---- many calls

-- what a tracker is called for: a tick, with what is known of it, or a reset
pub data TrackerCall : Type 0 where
  Tick : (entry : Entry) → TrackerCall
  Reset : TrackerCall

-- the answer of a tick, with its number
pub record Numbered : Type 0 where
  pub tick : ℕ
  pub answer : Answer

-- calls one after the other, with the answers of the ticks among them; a reset gives the start again, with the ticks that were made
abbrev pub Tracks : PlantModel → TrackerState → List TrackerCall → TrackerState → List Numbered → Type 0
Tracks m x [] y answers = (y ≡ x) × (answers ≡ [])
Tracks m x (Reset ∷ calls) y answers = Tracks m (start m x.ticks) calls y answers
Tracks m x (Tick entry ∷ calls) y answers =
    (z : TrackerState) × (answer : Answer) × (others : List Numbered) × Ticks m x entry z answer × Tracks m z calls y others
    × (answers ≡ record { tick = x.ticks + 1; answer = answer } ∷ others)

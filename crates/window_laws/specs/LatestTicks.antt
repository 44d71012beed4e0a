-- The ticks since a start, and the window of the last of them.
use Rattle.std.specs.Prelude.{◌≡◌, ◌⊎◌, ◌<◌, ◌≤◌, ◌+◌, ℕ, List, [], ◌∷◌, ◌++◌, length, map, min, suc, Option, Contains}
use Rattle.cca_base.specs.PlantModel.{PlantModel}
use Rattle.cca_base.specs.State.{IsState, start_modes}
use Rattle.window_laws.specs.Trajectories.{Entry, Best}
use Rattle.window_laws.specs.Ticks.{TrackerState, Found, window, start, TrackerCall, Tick, Reset, Numbered, Tracks}

-- calls behind which a tracker is at the start: none, or a reset comes last
abbrev pub IsToStart : List TrackerCall → Type 0
IsToStart calls = (calls ≡ []) ⊎ ((before : List TrackerCall) × (calls ≡ before ++ Reset ∷ []))

-- the ticks since the last reset of these calls, or since their start where there is none
abbrev pub AreSince : List TrackerCall → List Entry → Type 0
AreSince calls entries = (before : List TrackerCall) × IsToStart before × (calls ≡ before ++ map Tick entries)

-- how many of the calls are ticks
abbrev pub ticks_among : List TrackerCall → ℕ
ticks_among [] = 0
ticks_among (Reset ∷ calls) = ticks_among calls
ticks_among (Tick entry ∷ calls) = suc (ticks_among calls)

-- the records are what is known of the last of these ticks, eight of them or all
pub record AreLatest (entries records : List Entry) : Type 0 where
  pub gone : List Entry
  pub parts : entries ≡ gone ++ records
  pub count : length records ≡ min window (length entries)

-- the last of these answers is a trajectory, and this is its first state
abbrev pub BeginsLast : List Numbered → List ℕ → Type 0
BeginsLast answers s =
    (others : List Numbered) × (tick : ℕ) × (states : List (List ℕ)) × (cost : ℕ) × (revised : Option ℕ) × (answers ≡ others ++ record { tick = tick; answer = Found (s ∷ states) cost revised } ∷ [])

-- where the window of these ticks since a start begins: at the start modes while no tick is gone; behind that at the first state of the answer to the tick before the last one
pub record IsAnchorOf (m : PlantModel) (entries : List Entry) (earlier : List Numbered) (anchor : List ℕ) : Type 0 where
  pub at_start : length entries ≤ window → anchor ≡ start_modes m
  pub slid : window < length entries → BeginsLast earlier anchor

-- from a start on a tracker answers so to all of these ticks but the last
pub record AnswersBefore (m : PlantModel) (entries : List Entry) (answers : List Numbered) : Type 0 where
  pub before : List Entry
  pub last : Entry
  pub parts : entries ≡ before ++ last ∷ []
  pub ticks : ℕ
  pub state : TrackerState
  pub tracks : Tracks m (start m ticks) (map Tick before) state answers

-- the calls to a start, the ticks since then, and the later calls; an answer to the last of these ticks, behind the answers to the calls before it
pub record IsAnswered (m : PlantModel) (ticks : ℕ) (calls : List TrackerCall) (answers : List Numbered) (entries : List Entry) (earlier : List Numbered) (a : Numbered) : Type 0 where
  pub before : List TrackerCall
  pub after : List TrackerCall
  pub others : List Numbered
  pub later : List Numbered
  pub starts : IsToStart before
  pub calls_are : calls ≡ (before ++ map Tick entries) ++ after
  pub answers_are : answers ≡ (others ++ earlier) ++ (a ∷ later)
  pub first : Tracks m (start m ticks) before (start m (ticks + length others)) others
  pub since : (y : TrackerState) × Tracks m (start m (ticks + length others)) (map Tick entries) y (earlier ++ a ∷ [])

-- from a start on each trajectory that is answered is the best over exactly what is known of the last ticks since the last start, eight of them or all, from where the window of these begins
abbrev pub AnswersAreOfLatest : Type 0
AnswersAreOfLatest = (m : PlantModel) (ticks : ℕ) (y : TrackerState) (calls : List TrackerCall) (answers : List Numbered) → IsState m (start_modes m) → Tracks m (start m ticks) calls y answers
    → (a : Numbered) (states : List (List ℕ)) (cost : ℕ) (revised : Option ℕ) → Contains answers a → a.answer ≡ Found states cost revised
    → (entries : List Entry) × (earlier : List Numbered) × IsAnswered m ticks calls answers entries earlier a
    × ((anchor : List ℕ) × (records : List Entry) × AreLatest entries records × IsState m anchor × IsAnchorOf m entries earlier anchor × Best m anchor records states cost)

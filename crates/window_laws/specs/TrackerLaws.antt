-- Laws of a tracker's ticks.
use Rattle.std.specs.Prelude.{◌≡◌, ◌≢◌, ◌⊎◌, ◌<◌, ◌≤◌, ◌+◌, ℕ, false, List, [], ◌∷◌, ◌++◌, length, map, drop, slice_get, min, Option, Some, None, Contains}
use Rattle.cca_base.specs.PlantModel.{PlantModel}
use Rattle.cca_base.specs.State.{IsState, start_modes}
use Rattle.cca_base.specs.Shown.{CanShow}
use Rattle.window_laws.specs.Trajectories.{Entry, Best}
use Rattle.window_laws.specs.Ticks.{TrackerState, Answer, Ticks, Found, Unexplained, Holding, FindsBest, KeepsBest, window, going, next_anchor, start, TrackerCall, Tick, Reset, Numbered, Tracks}

-- a tick keeps what a tracker keeps
abbrev pub TicksKeep : Type 0
TicksKeep = (m : PlantModel) (x y : TrackerState) (entry : Entry) (answer : Answer) → KeepsBest m x → Ticks m x entry y answer → KeepsBest m y

-- a tick has one outcome at most
abbrev pub OneTick : Type 0
OneTick = (m : PlantModel) (x y z : TrackerState) (entry : Entry) (a b : Answer) → Ticks m x entry y a → Ticks m x entry z b → (y ≡ z) × (a ≡ b)

-- what stays of a full window is the best of the records that stay, from the next anchor
abbrev pub SlidesKeepBest : Type 0
SlidesKeepBest = (m : PlantModel) (x : TrackerState) → KeepsBest m x → x.holding ≡ false
    → (rest : ℕ) × Best m (next_anchor x) (drop (going x) x.records) (drop (going x) x.last) rest

-- a window has one tick more than the last one, up to eight
abbrev pub WindowFills : Type 0
WindowFills = (m : PlantModel) (x y : TrackerState) (entry : Entry) (states : List (List ℕ)) (cost : ℕ) (revised : Option ℕ) → KeepsBest m x → FindsBest m x entry y states cost revised
    → length states ≡ min window (length x.records + 1)

-- the last state of what is found can show what was seen at the tick
abbrev pub ShowsLatest : Type 0
ShowsLatest = (m : PlantModel) (x y : TrackerState) (entry : Entry) (states : List (List ℕ)) (cost : ℕ) (revised : Option ℕ) → FindsBest m x entry y states cost revised
    → (before : List (List ℕ)) × (s : List ℕ) × (states ≡ before ++ s ∷ []) × CanShow m s entry.seen

-- the tracker's last trajectory has this state at this tick
abbrev pub StandsAt : TrackerState → ℕ → List ℕ → Type 0
StandsAt x tick s = (i : ℕ) × (tick + length x.last ≡ x.ticks + 1 + i) × (slice_get x.last i ≡ Some s)

-- the first tick at which the states of both differ
abbrev pub IsRevisedTick : TrackerState → TrackerState → Option ℕ → Type 0
IsRevisedTick x y None = (tick : ℕ) (s t : List ℕ) → StandsAt x tick s → StandsAt y tick t → s ≡ t
IsRevisedTick x y (Some r) = (s t : List ℕ) × StandsAt x r s × StandsAt y r t × (s ≢ t) × ((tick : ℕ) (u v : List ℕ) → tick < r → StandsAt x tick u → StandsAt y tick v → u ≡ v)

-- what is revised, by tick numbers
abbrev pub RevisedByTick : Type 0
RevisedByTick = (m : PlantModel) (x y : TrackerState) (entry : Entry) (states : List (List ℕ)) (cost : ℕ) (revised : Option ℕ)
    → KeepsBest m x → length x.records ≤ x.ticks → FindsBest m x entry y states cost revised → IsRevisedTick x y revised

-- the first tick from the start revises nothing
abbrev pub NothingToRevise : Type 0
NothingToRevise = (m : PlantModel) (ticks : ℕ) (entry : Entry) (y : TrackerState) (states : List (List ℕ)) (cost : ℕ) (revised : Option ℕ)
    → Ticks m (start m ticks) entry y (Found states cost revised) → revised ≡ None

-- at the start no tick holds
abbrev pub StartsAwake : Type 0
StartsAwake = (m : PlantModel) (ticks : ℕ) (entry : Entry) (y : TrackerState) → Ticks m (start m ticks) entry y Holding → ⊥

-- what is known of the next ticks is of no account once a tick is unexplained or holds: the next one holds
abbrev pub HoldsOn : Type 0
HoldsOn = (m : PlantModel) (x y z : TrackerState) (first second : Entry) (a b : Answer) → (a ≡ Unexplained) ⊎ (a ≡ Holding)
    → Ticks m x first y a → Ticks m y second z b → b ≡ Holding

-- a tick holds only behind one that was unexplained or held
abbrev pub HoldsBehind : Type 0
HoldsBehind = (m : PlantModel) (x y z : TrackerState) (first second : Entry) (a : Answer) → Ticks m x first y a → Ticks m y second z Holding → (a ≡ Unexplained) ⊎ (a ≡ Holding)

-- ---- many calls

-- what was before a reset is of no account behind it, but for the number of ticks
abbrev pub ResetsForget : Type 0
ResetsForget = (m : PlantModel) (x o y : TrackerState) (calls : List TrackerCall) (answers : List Numbered) → x.ticks ≡ o.ticks
    → Tracks m x (Reset ∷ calls) y answers → Tracks m o (Reset ∷ calls) y answers

-- behind a start and ticks that don't end in holding the records are what is known of the last ticks, eight of them or all, and the anchor is the start while no tick is gone
abbrev pub KeepsLatest : Type 0
KeepsLatest = (m : PlantModel) (ticks : ℕ) (entries : List Entry) (y : TrackerState) (answers : List Numbered) → Tracks m (start m ticks) (map Tick entries) y answers → y.holding ≡ false
    → ((gone : List Entry) × (entries ≡ gone ++ y.records)) × (length y.records ≡ min window (length entries))
    × (length entries ≤ window → y.anchor ≡ start_modes m)

-- so calls have one list of answers at most
abbrev pub OneTracking : Type 0
OneTracking = (m : PlantModel) (x y z : TrackerState) (calls : List TrackerCall) (a b : List Numbered) → Tracks m x calls y a → Tracks m x calls z b → (y ≡ z) × (a ≡ b)

-- calls and later calls are one list of calls
abbrev pub TracksOn : Type 0
TracksOn = (m : PlantModel) (x y z : TrackerState) (calls more : List TrackerCall) (answers others : List Numbered)
    → Tracks m x calls y answers → Tracks m y more z others → Tracks m x (calls ++ more) z (answers ++ others)

-- a tracker at the start keeps what a tracker keeps
abbrev pub StartKeeps : Type 0
StartKeeps = (m : PlantModel) (ticks : ℕ) → IsState m (start_modes m) → KeepsBest m (start m ticks)

-- each trajectory that is answered is the best of some window of as many records, at most eight
abbrev pub AnswersAreBest : Type 0
AnswersAreBest = (m : PlantModel) (x y : TrackerState) (calls : List TrackerCall) (answers : List Numbered) → IsState m (start_modes m) → KeepsBest m x → Tracks m x calls y answers
    → (a : Numbered) (states : List (List ℕ)) (cost : ℕ) (revised : Option ℕ) → Contains answers a → a.answer ≡ Found states cost revised
    → (anchor : List ℕ) × (records : List Entry) × IsState m anchor × (length records ≤ window) × (length states ≡ length records) × Best m anchor records states cost

-- ticks are numbered one after the other, through resets, and each of them counts
abbrev pub NumbersGoOn : Type 0
NumbersGoOn = (m : PlantModel) (x y : TrackerState) (calls : List TrackerCall) (answers : List Numbered) → Tracks m x calls y answers
    → (y.ticks ≡ x.ticks + length answers) × ((i : ℕ) (a : Numbered) → slice_get answers i ≡ Some a → a.tick ≡ x.ticks + 1 + i)

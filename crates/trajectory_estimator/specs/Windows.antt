-- A window as a question of paths: each component walks through it, with the gates that its commands really have, and each state has a world
-- that agrees with what is seen.
use Rattle.std.specs.Prelude.{◌≡◌, ◌<◌, ◌+◌, ◌*◌, ℕ, zero, suc, Bool, true, false, List, [], ◌++◌, length, take, drop, map, slice_index, slice_index_or}
use Rattle.cca_base.specs.Model.{HasMode}
use Rattle.cca_base.specs.declared.model.Move.{Move}
use Rattle.cca_base.specs.Relations.{numbers_below}
use Rattle.cca_base.specs.Sets.{has}
use Rattle.cca_base.specs.declared.limits.TheConstants.{MAX_CHOICES}
use Rattle.cca_base.specs.Shown.{CanShow}
use Rattle.group_search.specs.Questions.{Question}
use Rattle.trajectory_estimator.specs.Asked.{Asked}
use Rattle.trajectory_estimator.specs.Walks.{IsWalk, gate_place, mode_place, places, record_at, stands_for}
use Rattle.window_laws.specs.Columns.{IsGate, IsOwn}

-- the state behind a record
abbrev pub state_at : Asked → List ℕ → ℕ → List ℕ
state_at q values at = take (length q.model.components) (drop (at * length q.model.components) values)

-- the state before it
abbrev pub state_before : Asked → List ℕ → ℕ → List ℕ
state_before q values zero = q.anchor
state_before q values (suc at) = state_at q values at

-- all states
abbrev pub states_of : Asked → List ℕ → List (List ℕ)
states_of q values = map (state_at q values) (numbers_below (length q.records))

-- the gate of the record's command in the state before it: the value of the component that has a move by the command there stands for it
pub record HasGate (q : Asked) (values : List ℕ) (at : ℕ) : Type 0 where
  pub gate : Bool
  pub is_gate : IsGate q.model (state_before q values at) (record_at q at).command gate
  pub stands : (c : ℕ) (move : Move) → IsOwn q.model c (record_at q at).command (slice_index (state_before q values at) c) move → stands_for (slice_index values (gate_place q c at)) gate ≡ true

-- walks of all components, with real gates; each state can show what was seen at its record
pub record IsWindow (q : Asked) (values costs : List ℕ) : Type 0 where
  pub places : length values ≡ places q
  pub full : length costs ≡ length q.model.components
  pub walks : (c : ℕ) → c < length q.model.components → IsWalk q c values (slice_index costs c)
  pub shows : (at : ℕ) → at < length q.records → CanShow q.model (state_at q values at) (record_at q at).seen
  pub gates : (at : ℕ) → at < length q.records → HasGate q values at

-- so many rows of this list
abbrev pub rows_of : ℕ → List ℕ → List ℕ
rows_of zero row = []
rows_of (suc count) row = rows_of count row ++ row

-- before each record, and behind the last, a number for each mode
abbrev pub room_of : Asked → ℕ
room_of q = (length q.records + 1) * MAX_CHOICES

-- what a window asks
abbrev pub window_of : Asked → Question
window_of q = record {
  of = rows_of (length q.records + length q.records) (numbers_below (length q.model.components));
  count = length q.model.components;
  room = room_of q;
  has_cost = λ c values cost. IsWalk q c values cost;
  solves = IsWindow q;
}

-- the component stands in the anchor's mode behind each record, whatever its walk
abbrev pub IsStill : Asked → ℕ → Type 0
IsStill q c = (values : List ℕ) (cost : ℕ) → IsWalk q c values cost → (at : ℕ) → at < length q.records → slice_index values (mode_place q c at) ≡ slice_index q.anchor c

-- a word for each component; what is said to be still is
pub record AreStill (q : Asked) (still : List Bool) : Type 0 where
  pub full : length still ≡ length q.model.components
  pub each : (c : ℕ) → c < length q.model.components → slice_index_or still c false ≡ true → IsStill q c

-- sets with all modes of each component behind each record, and with all that a gate may be
pub record AreFirstMasks (q : Asked) (masks : List ℕ) : Type 0 where
  pub full : length masks ≡ places q
  pub modes : (at c mode : ℕ) → at < length q.records → HasMode q.model c mode → has (slice_index masks (mode_place q c at)) mode ≡ true
  pub gates : (at c value : ℕ) → at < length q.records → c < length q.model.components → value < 3 → has (slice_index masks (gate_place q c at)) value ≡ true

-- What the steps of the searches find.
use Rattle.std.specs.Prelude.{◌≡◌, ℕ, ◌+◌, ◌<◌, ◌≤◌, ◌==◌, ◌⊎◌, ◌↔◌, Bool, List, length, slice_index, Contains, count_by}
use Rattle.cca_base.specs.declared.limits.TheConstants.{MAX_ROWS}
use Rattle.cca_base.specs.Estimates.{IsEarlier}
use Rattle.cca_base.specs.Flags.{IsSet}
use Rattle.cca_base.specs.Relations.{PathBy, AncestorBy, IsCycleBy}
use Rattle.causal_graph.specs.Needs.{RowNeeds}

-- flags are set only at places that a u16 numbers
abbrev pub AreNarrow : List Bool → Type 0
AreNarrow flags = (u : ℕ) → IsSet flags u → u < MAX_ROWS

-- exactly the flags of the row's numbers are set besides those that were
pub record Marks (row : List ℕ) (old new : List Bool) : Type 0 where
  pub full : length new ≡ length old
  pub kept : (u : ℕ) → IsSet old u → IsSet new u
  pub marked : (u : ℕ) → Contains row u → IsSet new u
  pub origin : (u : ℕ) → IsSet new u → IsSet old u ⊎ Contains row u

-- the flags of exactly those are set that a remaining one needs
pub record AreNeeded (rows : List (List ℕ)) (remaining : List ℕ) (flags : List Bool) : Type 0 where
  pub full : length flags ≡ length rows
  pub each : (u : ℕ) → IsSet flags u ↔ ((d : ℕ) × Contains remaining d × RowNeeds rows d u)

-- the first place whose number's flag is not set
pub record IsFirstUnset (flags : List Bool) (numbers : List ℕ) (place : ℕ) : Type 0 where
  pub within : place < length numbers
  pub is_unset : IsSet flags (slice_index numbers place) → ⊥
  pub before : (k : ℕ) → k < place → IsSet flags (slice_index numbers k)

-- some numbers, each of which one of them needs
pub record IsStuck (rows : List (List ℕ)) (numbers : List ℕ) : Type 0 where
  pub some : 0 < length numbers
  pub each : (c : ℕ) → Contains numbers c → (d : ℕ) × Contains numbers d × RowNeeds rows d c

-- there are such numbers
abbrev pub HasStuck : List (List ℕ) → Type 0
HasStuck rows = (numbers : List ℕ) × IsStuck rows numbers

-- how many are at no distance
abbrev pub unreached : List ℕ → ℕ
unreached distances = count_by (λ x. x == 0) distances

-- 1 for each row that needs t, and 0 for the others
pub record AreDirect (rows : List (List ℕ)) (t : ℕ) (distances : List ℕ) : Type 0 where
  pub full : length distances ≡ length rows
  pub each : (v : ℕ) → ((slice_index distances v ≡ 1) × RowNeeds rows v t) ⊎ ((slice_index distances v ≡ 0) × (RowNeeds rows v t → ⊥))

-- the least number of needs from each row to t, and 0 where none lead there
pub record AreDistances (rows : List (List ℕ)) (t : ℕ) (distances : List ℕ) : Type 0 where
  pub full : length distances ≡ length rows
  pub reached : (v : ℕ) → 0 < slice_index distances v → (between : List ℕ) × PathBy (RowNeeds rows) v between t × (length between + 1 ≡ slice_index distances v)
  pub least : (v : ℕ) (between : List ℕ) → PathBy (RowNeeds rows) v between t → (0 < slice_index distances v) × (slice_index distances v ≤ length between + 1)

-- those that need one at the level directly, and were at no distance, are one farther
pub record IsFarther (rows : List (List ℕ)) (level : ℕ) (old new : List ℕ) : Type 0 where
  pub full : length new ≡ length old
  pub each : (v : ℕ) → (slice_index new v ≡ slice_index old v)
      ⊎ ((slice_index old v ≡ 0) × (slice_index new v ≡ level + 1) × ((u : ℕ) × RowNeeds rows v u × (slice_index old u ≡ level)))
  pub found : (v u : ℕ) → RowNeeds rows v u → slice_index old u ≡ level → 0 < slice_index new v

-- the least of the row's numbers at this distance
pub record IsNearest (row distances : List ℕ) (distance u : ℕ) : Type 0 where
  pub among : Contains row u
  pub at_distance : slice_index distances u ≡ distance
  pub least : (v : ℕ) → Contains row v → slice_index distances v ≡ distance → u ≤ v

-- the cycle from t that is shortest, and is the first of these entry by entry
pub record IsFirstCycle (rows : List (List ℕ)) (t : ℕ) (list : List ℕ) : Type 0 where
  pub cycle : IsCycleBy (RowNeeds rows) list t
  pub shortest : (other : List ℕ) → IsCycleBy (RowNeeds rows) other t → length list ≤ length other
  pub earliest : (other : List ℕ) → IsCycleBy (RowNeeds rows) other t → length other ≡ length list → IsEarlier other list → ⊥

-- the flags stay set, those that one of them needs are set besides, and only those that one of them reaches
pub record Spreads (rows : List (List ℕ)) (old new : List Bool) : Type 0 where
  pub full : length new ≡ length old
  pub kept : (u : ℕ) → IsSet old u → IsSet new u
  pub marked : (v u : ℕ) → IsSet old v → RowNeeds rows v u → IsSet new u
  pub origin : (u : ℕ) → IsSet new u → IsSet old u ⊎ ((v : ℕ) × IsSet old v × AncestorBy (RowNeeds rows) v u)

-- the flags of exactly those are set that c reaches
pub record AreReached (rows : List (List ℕ)) (c : ℕ) (flags : List Bool) : Type 0 where
  pub full : length flags ≡ length rows
  pub each : (u : ℕ) → IsSet flags u ↔ AncestorBy (RowNeeds rows) c u

-- Clashes of walks: values of a group's components that no trajectory has together.
use Rattle.std.specs.Prelude.{◌≡◌, ◌≢◌, ◌<◌, ◌==◌, ◌||◌, ℕ, Bool, true, false, cond, List, length, map, All, Contains, Some, slice_get, slice_index, slice_index_or}
use Rattle.cca_base.specs.declared.cube.Pair.{Pair}
use Rattle.cca_base.specs.declared.model.Move.{Move}
use Rattle.cca_base.specs.MoveIndex.{IsMoveNamed}
use Rattle.cca_base.specs.State.{Extends}
use Rattle.group_search.specs.Questions.{AreOf, IsCut, in_group}
use Rattle.trajectory_estimator.specs.Asked.{Asked}
use Rattle.trajectory_estimator.specs.Walks.{IsWalk, gate_place, mode_place, places, record_at}
use Rattle.trajectory_estimator.specs.Windows.{state_before, window_of}
use Rattle.trajectory_estimator.specs.declared.before.Before.{Before}
use Rattle.trajectory_estimator.specs.declared.group_paths.GroupPaths.{GroupPaths}

-- the values of the group's components are walks
abbrev pub AreWalks : GroupPaths → Type 0
AreWalks x = (c : ℕ) → c < length x.query.now.model.components → in_group x.names.now x.group c ≡ true → (cost : ℕ) × IsWalk x.query.now c x.values.now cost

-- whether the component stands still
abbrev pub stands_still : GroupPaths → ℕ → Bool
stands_still x c = slice_index_or x.still.now c false

-- whether a mode of the component is asked for: those of the group's components are, and those of components that stand still
abbrev pub is_asked : GroupPaths → ℕ → Bool
is_asked x c = in_group x.names.now x.group c || stands_still x c

-- the mode of the anchor where it stands still, and else the one behind the record
abbrev pub mode_asked : GroupPaths → ℕ → ℕ → ℕ
mode_asked x at c = cond (stands_still x c) (slice_index x.query.now.anchor c) (slice_index x.values.now (mode_place x.query.now c at))

-- exactly the components that are asked for, each with that mode
pub record ArePairsAt (x : GroupPaths) (at : ℕ) (pairs : List Pair) : Type 0 where
  pub own : All (λ p. (p.item < length x.query.now.model.components) × (is_asked x p.item ≡ true) × (p.value ≡ mode_asked x at p.item)) pairs
  pub whole : (c : ℕ) → c < length x.query.now.model.components → is_asked x c ≡ true → Contains pairs (record { item = c; value = mode_asked x at c })

-- the pairs, at the places of their components' modes behind the record
abbrev pub AreMoved : Asked → ℕ → List Pair → List Pair → Type 0
AreMoved q at cube cut = cut ≡ map (λ p. record { item = mode_place q p.item at; value = p.value }) cube

-- values that the group's walks have
pub record AreOwn (x : GroupPaths) (cut : List Pair) : Type 0 where
  pub held : Extends x.values.now cut
  pub own : AreOf (window_of x.query.now) (in_group x.names.now x.group) cut

-- and that no trajectory has together
pub record IsClashOf (x : GroupPaths) (cut : List Pair) : Type 0 where
  pub own : AreOwn x cut
  pub clash : IsCut (window_of x.query.now) cut

-- ---- the state before a record

-- whether the mode of the component is known: before the window each is, and behind a record those of the group
abbrev pub knows : Before → ℕ → Bool
knows b c = b.at == 0 || in_group b.paths.names.now b.paths.group c

-- the component is known to stand in the mode
pub record IsKnown (b : Before) (p : Pair) : Type 0 where
  pub component : p.item < length b.modes.now
  pub known : knows b p.item ≡ true
  pub stands : slice_index b.modes.now p.item ≡ p.value

-- a pair of the cube has the component and another mode
abbrev pub IsAgainst : List Pair → Pair → Type 0
IsAgainst cube p = (q : Pair) × Contains cube q × (q.item ≡ p.item) × (q.value ≢ p.value)

-- the pairs of known components stand
abbrev pub MayHold : Before → List Pair → Type 0
MayHold b cube = (p : Pair) → Contains cube p → knows b p.item ≡ true → slice_get b.modes.now p.item ≡ Some p.value

-- not all pairs are known to stand
abbrev pub MayFail : Before → List Pair → Type 0
MayFail b cube = All (IsKnown b) cube → ⊥

-- values that have all pairs of the cut have the component in this mode before the record
abbrev pub Blames : Before → List Pair → Pair → Type 0
Blames b cut p = (values : List ℕ) → length values ≡ places b.paths.query.now → Extends values cut → slice_index (state_before b.paths.query.now values b.at) p.item ≡ p.value

-- what the old pairs say the new ones say too
abbrev pub SaysMore : List Pair → List Pair → Type 0
SaysMore old new = (values : List ℕ) → Extends values new → Extends values old

-- a cut with pairs of the group's walks, that says what the old one does
pub record IsCutWith (b : Before) (old new : List Pair) : Type 0 where
  pub own : AreOwn b.paths new
  pub more : SaysMore old new

-- the record's command names the move with this number in the state before it, and the group has its component
pub record IsNamedAt (b : Before) (number : ℕ) : Type 0 where
  pub command : ℕ
  pub sent : (record_at b.paths.query.now b.at).command ≡ Some command
  pub named : IsMoveNamed b.paths.query.now.model.moves b.modes.now command number
  pub own : (move : Move) → slice_get b.paths.query.now.model.moves number ≡ Some move → in_group b.paths.names.now b.paths.group move.component ≡ true

-- the values have the gate that the component's walk goes by at the record
abbrev pub IsGateOf : Before → ℕ → List ℕ → Type 0
IsGateOf b c values = slice_index values (gate_place b.paths.query.now c b.at) ≡ slice_index b.paths.values.now (gate_place b.paths.query.now c b.at)

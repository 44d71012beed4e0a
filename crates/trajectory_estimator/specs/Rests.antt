-- What a component's steps cost at least: those behind each record, and those before it.
use Rattle.std.specs.Prelude.{◌≡◌, ◌≢◌, ◌<◌, ◌≤◌, ◌+◌, ◌-◌, ◌*◌, ℕ, zero, suc, true, List, length, take, drop, Option, Some, None, slice_index, slice_index_or}
use Rattle.cca_base.specs.Model.{HasMode, mode_counts}
use Rattle.cca_base.specs.Sets.{has}
use Rattle.cca_base.specs.declared.limits.TheConstants.{MAX_CHOICES, MAX_COST}
use Rattle.group_search.specs.Questions.{IsInside}
use Rattle.group_search.specs.Columns.{CostsMore, itself}
use Rattle.group_search.specs.declared.columns.Columns.{Columns}
use Rattle.trajectory_estimator.specs.Steps.{AreCheap, IsLeastOf, IsStep}
use Rattle.trajectory_estimator.specs.Walks.{AreSteps, IsWalk, gate_place, mode_before, mode_place, sum_below}
use Rattle.trajectory_estimator.specs.Windows.{room_of, window_of}
use Rattle.trajectory_estimator.specs.declared.component_query.ComponentQuery.{ComponentQuery}
use Rattle.trajectory_estimator.specs.declared.prices.Passed.{Passed}
use Rattle.trajectory_estimator.specs.declared.step.Ahead.{Ahead}
use Rattle.trajectory_estimator.specs.declared.step.Step.{Step}

-- how many modes the component has
abbrev pub modes_of : ComponentQuery → ℕ
modes_of x = slice_index (mode_counts x.query.now.model) x.component

-- ---- walks inside

-- the component may stand in the mode before the record: in the anchor's mode, or in one of the set of the record before
abbrev pub MayStand : ComponentQuery → ℕ → ℕ → Type 0
MayStand x zero mode = mode ≡ slice_index x.query.now.anchor x.component
MayStand x (suc at) mode = has (slice_index x.masks.now (mode_place x.query.now x.component at)) mode ≡ true

-- the component's steps, each inside the sets
pub record AreInside (x : ComponentQuery) (values : List ℕ) (own : ℕ → ℕ) : Type 0 where
  pub steps : AreSteps x.query.now x.component values own
  pub modes : (at : ℕ) → at < length x.query.now.records
      → has (slice_index x.masks.now (mode_place x.query.now x.component at)) (slice_index values (mode_place x.query.now x.component at)) ≡ true
  pub gates : (at : ℕ) → at < length x.query.now.records
      → has (slice_index x.masks.now (gate_place x.query.now x.component at)) (slice_index values (gate_place x.query.now x.component at)) ≡ true

-- what all steps of a walk cost
abbrev pub whole_cost : ComponentQuery → (ℕ → ℕ) → ℕ
whole_cost x own = sum_below (length x.query.now.records) own

-- ---- rows of room

-- before each record, and behind the last, a row with a number for each mode
abbrev pub row_at : List (Option ℕ) → ℕ → List (Option ℕ)
row_at room at = take MAX_CHOICES (drop (at * MAX_CHOICES) room)

-- the rows but for this one are as before
abbrev pub KeepsRows : ℕ → List (Option ℕ) → List (Option ℕ) → Type 0
KeepsRows at old new = (length new ≡ length old) × ((other : ℕ) → other ≢ at → row_at new other ≡ row_at old other)

-- ---- behind a record

-- the sets of a record with what stands behind it
pub record IsAhead (x : ComponentQuery) (at : ℕ) (behind : List (Option ℕ)) (ahead : Ahead) : Type 0 where
  pub modes : ahead.modes ≡ slice_index x.masks.now (mode_place x.query.now x.component at)
  pub gates : ahead.gates ≡ slice_index x.masks.now (gate_place x.query.now x.component at)
  pub rests : ahead.rests.now ≡ behind

-- what the step costs with all that comes behind it
abbrev pub total_of : Option Step → Option ℕ
total_of None = None
total_of (Some s) = Some s.total

-- the least step from the mode at a record, before what stands behind it
abbrev pub IsLeastFrom : ComponentQuery → ℕ → List (Option ℕ) → ℕ → Option Step → Type 0
IsLeastFrom x at behind from step = (ahead : Ahead) → IsAhead x at behind ahead → IsLeastOf (IsStep x.query.now x.component at from ahead) step

-- for each mode in which the component may stand before a record, what the least step from there costs with all that comes behind it
abbrev pub AreTotals : ComponentQuery → ℕ → List (Option ℕ) → List (Option ℕ) → Type 0
AreTotals x at behind row = (from : ℕ) → HasMode x.query.now.model x.component from → MayStand x at from
    → (step : Option Step) × IsLeastFrom x at behind from step × (slice_index_or row from None ≡ total_of step)

-- nothing comes behind the last record; before each record from this one on stands what the least steps from there cost
pub record AreRestsFrom (x : ComponentQuery) (bound : ℕ) (room : List (Option ℕ)) : Type 0 where
  pub full : length room ≡ room_of x.query.now
  pub last : (mode : ℕ) → mode < modes_of x → slice_index_or (row_at room (length x.query.now.records)) mode None ≡ Some 0
  pub each : (at : ℕ) → bound ≤ at → at < length x.query.now.records → AreTotals x at (row_at room (at + 1)) (row_at room at)
  pub cheap : (at : ℕ) → bound ≤ at → at ≤ length x.query.now.records → AreCheap (modes_of x) ((length x.query.now.records - at) * MAX_COST) (row_at room at)

-- the same of each record
abbrev pub AreRests : ComponentQuery → List (Option ℕ) → Type 0
AreRests x room = AreRestsFrom x 0 room

-- ---- a column

-- the component's values and cost are a walk of least cost inside the sets
pub record IsFollowed (x : ComponentQuery) (old new : Columns) : Type 0 where
  pub inside : IsInside (window_of x.query.now) (itself x.component) x.masks.now new.values
  pub walk : IsWalk x.query.now x.component new.values (slice_index new.costs x.component)
  pub cheap : slice_index new.costs x.component ≤ length x.query.now.records * MAX_COST
  pub least : (values : List ℕ) (own : ℕ → ℕ) → AreInside x values own → slice_index new.costs x.component ≤ whole_cost x own

-- no walk of the component is inside the sets
abbrev pub NoWalk : ComponentQuery → Type 0
NoWalk x = (values : List ℕ) (own : ℕ → ℕ) → AreInside x values own → ⊥

-- ---- before a record

-- what stands is at most this
abbrev pub AtMost : Option ℕ → ℕ → Type 0
AtMost None most = ⊥
AtMost (Some cost) most = cost ≤ most

-- what a walk's steps before a record cost is at least what stands at its mode there
abbrev pub AreHeadsAt : ComponentQuery → ℕ → List (Option ℕ) → Type 0
AreHeadsAt x at row = (values : List ℕ) (own : ℕ → ℕ) → AreInside x values own → AtMost (slice_index_or row (mode_before x.query.now x.component values at) None) (sum_below at own)

-- the same of each record up to this one, and behind it
pub record AreHeads (x : ComponentQuery) (bound : ℕ) (room : List (Option ℕ)) : Type 0 where
  pub full : length room ≡ room_of x.query.now
  pub each : (at : ℕ) → at ≤ bound → AreHeadsAt x at (row_at room at)

-- the step costs with its head at least what stands at its mode
abbrev pub IsTaken : List (Option ℕ) → ℕ → Step → Type 0
IsTaken row head s = AtMost (slice_index_or row s.to None) (head + s.own)

-- what stands in a row is no more than what stood there
abbrev pub IsNoMore : List (Option ℕ) → List (Option ℕ) → Type 0
IsNoMore old new = (mode most : ℕ) → AtMost (slice_index_or old mode None) most → AtMost (slice_index_or new mode None) most

-- ---- prices

-- a step behind a head is taken in: to the end it costs at least what stands for another mode, or another gate
pub record TakesIn (head : ℕ) (s : Step) (p : Passed) : Type 0 where
  pub other_mode : s.to ≢ p.own_mode → AtMost p.other_mode (head + s.total)
  pub other_gate : s.gate ≢ p.own_gate → AtMost p.other_gate (head + s.total)

-- what was taken in still is
pub record KeepsTaken (old new : Passed) : Type 0 where
  pub own_mode : new.own_mode ≡ old.own_mode
  pub own_gate : new.own_gate ≡ old.own_gate
  pub taken : (head : ℕ) (s : Step) → TakesIn head s old → TakesIn head s new

-- each step from a mode that has a head is taken in
abbrev pub TakesSteps : ComponentQuery → ℕ → List (Option ℕ) → List (Option ℕ) → Passed → Type 0
TakesSteps x at heads behind p = (ahead : Ahead) (from head : ℕ) (s : Step) → IsAhead x at behind ahead → HasMode x.query.now.model x.component from
    → slice_index_or heads from None ≡ Some head → IsStep x.query.now x.component at from ahead s → TakesIn head s p

-- a walk inside that has another value at one of the component's places behind the first records costs the price more
abbrev pub ArePricedTo : ComponentQuery → ℕ → Columns → Type 0
ArePricedTo x bound columns = (values : List ℕ) (own : ℕ → ℕ) → AreInside x values own → (at : ℕ) → at < bound
    → (slice_index values (mode_place x.query.now x.component at) ≢ slice_index columns.values (mode_place x.query.now x.component at)
    → CostsMore (slice_index_or columns.prices (mode_place x.query.now x.component at) None) (slice_index columns.costs x.component) (whole_cost x own))
    × (slice_index values (gate_place x.query.now x.component at) ≢ slice_index columns.values (gate_place x.query.now x.component at)
    → CostsMore (slice_index_or columns.prices (gate_place x.query.now x.component at) None) (slice_index columns.costs x.component) (whole_cost x own))

-- values and costs are as before, and the prices of other components
pub record KeepsPrices (x : ComponentQuery) (old new : Columns) : Type 0 where
  pub values : new.values ≡ old.values
  pub costs : new.costs ≡ old.costs
  pub full : length new.prices ≡ length old.prices
  pub behind : new.behind ≡ old.behind
  pub before : new.before ≡ old.before
  pub others : (place : ℕ) → place < length (window_of x.query.now).of → slice_index (window_of x.query.now).of place ≢ x.component
      → slice_index_or new.prices place None ≡ slice_index_or old.prices place None

-- values and costs of other components are as before, and all prices
pub record KeepsValues (x : ComponentQuery) (old new : Columns) : Type 0 where
  pub values_full : length new.values ≡ length old.values
  pub costs_full : length new.costs ≡ length old.costs
  pub prices : new.prices ≡ old.prices
  pub behind : new.behind ≡ old.behind
  pub before : new.before ≡ old.before
  pub values : (place : ℕ) → place < length (window_of x.query.now).of → slice_index (window_of x.query.now).of place ≢ x.component
      → slice_index new.values place ≡ slice_index old.values place
  pub costs : (d : ℕ) → d ≢ x.component → slice_index new.costs d ≡ slice_index old.costs d

-- One component through a window: its modes behind the records, the gates that it goes by, and what its steps cost.
use Rattle.std.specs.Prelude.{◌≡◌, ◌<◌, ◌+◌, ◌*◌, ◌==◌, ◌||◌, ℕ, zero, suc, Bool, true, cond, List, [], length, Option, None, slice_index, slice_index_or}
use Rattle.cca_base.specs.PlantModel.{PlantModel}
use Rattle.cca_base.specs.Successors.{ChangeCosts}
use Rattle.trajectory_estimator.specs.Asked.{Asked}
use Rattle.window_laws.specs.Columns.{Sends}
use Rattle.window_laws.specs.Trajectories.{Entry}

-- ---- where a list of values has what belongs to a component

-- behind each record a row with a mode of each component
abbrev pub mode_place : Asked → ℕ → ℕ → ℕ
mode_place q c at = at * length q.model.components + c

-- behind all modes, for each record a row with a gate of each component
abbrev pub gate_place : Asked → ℕ → ℕ → ℕ
gate_place q c at = (length q.records + at) * length q.model.components + c

-- so many values in all
abbrev pub places : Asked → ℕ
places q = (length q.records + length q.records) * length q.model.components

-- the component's mode before a record
abbrev pub mode_before : Asked → ℕ → List ℕ → ℕ → ℕ
mode_before q c values zero = slice_index q.anchor c
mode_before q c values (suc at) = slice_index values (mode_place q c at)

-- ---- steps

-- what is known of a tick before which nothing was sent, and at which nothing was seen
abbrev pub nothing_known : Entry
nothing_known = record { command = None; seen = [] }

-- what is known of the record's tick
abbrev pub record_at : Asked → ℕ → Entry
record_at q at = slice_index_or q.records at nothing_known

-- whether the value stands for the gate: 0 for a shut one, 1 for an open one, and 2 for either
abbrev pub stands_for : ℕ → Bool → Bool
stands_for value gate = value == cond gate 1 0 || value == 2

-- a component's step from mode to mode by a gate, with its cost
abbrev pub StepCosts : PlantModel → ℕ → Option ℕ → Bool → ℕ → ℕ → ℕ → Type 0
StepCosts m c k gate from to cost = (nominal : ℕ) × Sends m c k gate from nominal × ChangeCosts m c from nominal to cost

-- the step at a record costs this by each gate that the value stands for
pub record StepBy (q : Asked) (c at value from to own : ℕ) : Type 0 where
  pub small : value < 3
  pub each : (gate : Bool) → stands_for value gate ≡ true → StepCosts q.model c (record_at q at).command gate from to own

-- the step that the values have
abbrev pub StepAt : Asked → ℕ → List ℕ → ℕ → ℕ → Type 0
StepAt q c values at own = StepBy q c at (slice_index values (gate_place q c at)) (mode_before q c values at) (slice_index values (mode_place q c at)) own

-- the sum over all numbers below n
abbrev pub sum_below : ℕ → (ℕ → ℕ) → ℕ
sum_below zero f = 0
sum_below (suc n) f = f n + sum_below n f

-- each of the component's steps costs what is said of it
pub record AreSteps (q : Asked) (c : ℕ) (values : List ℕ) (own : ℕ → ℕ) : Type 0 where
  pub component : c < length q.model.components
  pub each : (at : ℕ) → at < length q.records → StepAt q c values at (own at)

-- together they cost this
pub record IsWalk (q : Asked) (c : ℕ) (values : List ℕ) (cost : ℕ) : Type 0 where
  pub own : ℕ → ℕ
  pub steps : AreSteps q c values own
  pub total : cost ≡ sum_below (length q.records) own

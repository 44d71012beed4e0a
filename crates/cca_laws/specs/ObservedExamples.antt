-- What is observed, and how a goal is kept.
use Rattle.std.specs.Prelude.{◌≡◌, List, [], ◌∷◌, Some, codes}
use Rattle.cca_base.specs.declared.cube.Pair.{Pair}
use Rattle.cca_base.specs.declared.events.Event.TheVariants as event
use Rattle.cca_base.specs.PlantModel.{PlantModel}
use Rattle.cca_base.specs.Orders.{IsSorted}
use Rattle.cca_base.specs.Accepted.{CompiledModel}
use Rattle.cca_base.specs.Choice.{IsChosenReply}
use Rattle.cca_base.specs.Trace.{ExecutiveState, start, Changes, Observed}
use Rattle.cca_base.specs.Runs.{TickRecord, Ticks}
use Rattle.cca_laws.specs.Examples.{variable_of}
use Rattle.cca_laws.specs.ValveExamples.{valve_model}

-- two sensed variables that nothing ties
abbrev pub loose : PlantModel
loose = record {
  version = 1;
  components = [];
  variables =
      variable_of (codes "x") (codes "low" ∷ codes "high" ∷ []) ∷ variable_of (codes "y") (codes "low" ∷ codes "high" ∷ [])
      ∷ [];
  rules = [];
  commands = [];
  moves = [];
  failures = [];
}

-- x is low
abbrev pub x_low : Pair
x_low = record { item = 0; value = 0 }

-- y is high
abbrev pub y_high : Pair
y_high = record { item = 1; value = 1 }

-- what is observed as y, x is pending as x, y
abbrev pub PendingRises : Type 0
PendingRises = Changes loose (IsSorted []) (start loose 0) (event.Observe (y_high ∷ x_low ∷ [])) (record (start loose 0) { pending = x_low ∷ y_high ∷ [] })

-- a mirrored variable that may have either value gives no pair
abbrev pub NothingMirrored : Type 0
NothingMirrored = Observed loose (record (start loose 0) { mirrored = 1 }) []

-- a goal for drv and then valve, as it is given
abbrev pub as_given : List Pair
as_given = record { item = 0; value = 0 } ∷ record { item = 1; value = 1 } ∷ []

-- the same goal for valve and then drv, as it is kept
abbrev pub as_kept : List Pair
as_kept = record { item = 1; value = 1 } ∷ record { item = 0; value = 0 } ∷ []

-- a goal for drv and then valve is kept as valve, drv, where that is the order
abbrev pub GoalIsTurned : Type 0
GoalIsTurned = IsSorted (1 ∷ 0 ∷ []) as_given as_kept

-- it is kept as nothing else
abbrev pub GoalIsKeptTurned : Type 0
GoalIsKeptTurned = (x y : ExecutiveState) → Changes valve_model (IsSorted (1 ∷ 0 ∷ [])) x (event.Goal as_given) y
    → y.goal ≡ Some as_kept

-- and a tick behind it has that goal, in a model of that order
abbrev pub TickHasGoalTurned : Type 0
TickHasGoalTurned = (b : CompiledModel) (x : ExecutiveState) (t : TickRecord) → b.order ≡ 1 ∷ 0 ∷ []
    → Ticks b (IsChosenReply b) x [] (event.Goal as_given ∷ event.Tick ∷ []) (t ∷ []) → t.before.goal ≡ Some as_kept

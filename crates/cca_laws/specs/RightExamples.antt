-- When an estimate has to be right, and what a reset keeps.
use Rattle.std.specs.Prelude.{◌≡◌, ℕ, List, [], ◌∷◌}
use Rattle.cca_base.specs.declared.cube.Pair.{Pair}
use Rattle.cca_base.specs.declared.events.Event.TheVariants as event
use Rattle.cca_base.specs.declared.events.Reply.TheVariants.{Idle}
use Rattle.cca_base.specs.declared.events.Shown.TheVariants.{Estimated}
use Rattle.cca_base.specs.PlantModel.{PlantModel}
use Rattle.cca_base.specs.Accepted.{CompiledModel}
use Rattle.cca_base.specs.Orders.{IsSorted}
use Rattle.cca_base.specs.Trace.{ExecutiveState, start, Changes}
use Rattle.cca_base.specs.Runs.{TickRecord, StaysRight}
use Rattle.cca_laws.specs.ValveExamples.{valve_model}

-- the observation that nothing flows
abbrev pub no_flow : List Pair
no_flow = record { item = 0; value = 0 } ∷ []

-- the first tick, after that observation, with an estimate in which the driver is on; the plant's is off
abbrev pub wrong_moment : TickRecord
wrong_moment = record {
  since = event.Observe no_flow ∷ [];
  before = record (start valve_model 0) { pending = no_flow };
  report = record { tick = 1; shown = Estimated 0 (record { modes = 1 ∷ 0 ∷ [] }) Idle };
}

-- it does not stay right: no fault came, and the plant can show that nothing flows
abbrev pub WrongIsNotRight : Type 0
WrongIsNotRight = (ways : List (List (List Pair))) (order bounds : List ℕ)
    → StaysRight (record { model = valve_model; ways = ways; order = order; bounds = bounds }) (wrong_moment ∷ []) → ⊥

-- the same tick after a fault
abbrev pub faulty_moment : TickRecord
faulty_moment = record wrong_moment { since = event.Fault (record { item = 0; value = 0 }) ∷ event.Observe no_flow ∷ [] }

-- after a fault a wrong estimate breaks no promise
abbrev pub FaultsExcuse : Type 0
FaultsExcuse = (b : CompiledModel) → StaysRight b (faulty_moment ∷ [])

-- the same tick after a fault and a reset, and then the observation
abbrev pub reset_moment : TickRecord
reset_moment = record wrong_moment { since = event.Fault (record { item = 0; value = 0 }) ∷ event.Reset ∷ event.Observe no_flow ∷ [] }

-- a reset takes the excuse away again
abbrev pub ResetsEndExcuses : Type 0
ResetsEndExcuses = (ways : List (List (List Pair))) (order bounds : List ℕ)
    → StaysRight (record { model = valve_model; ways = ways; order = order; bounds = bounds }) (reset_moment ∷ []) → ⊥

-- a reset keeps the number of the tick
abbrev pub ResetKeepsTicks : Type 0
ResetKeepsTicks = (m : PlantModel) (order : List ℕ) (x y : ExecutiveState) → Changes m (IsSorted order) x event.Reset y → y.ticks ≡ x.ticks

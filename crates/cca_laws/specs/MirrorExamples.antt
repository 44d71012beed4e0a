-- What mirroring changes, what a tick leaves, and whose values are mirrored.
use Rattle.std.specs.Prelude.{◌≡◌, ◌⊎◌, ◌↔◌, ℕ, IsTrue, List, [], ◌∷◌}
use Rattle.cca_base.specs.declared.cube.Pair.{Pair}
use Rattle.cca_base.specs.declared.events.Event.TheVariants as event
use Rattle.cca_base.specs.PlantModel.{PlantModel}
use Rattle.cca_base.specs.Orders.{IsSorted}
use Rattle.cca_base.specs.Sets.{has}
use Rattle.cca_base.specs.Trace.{ExecutiveState, start, Changes, AllMayCome, Observed}
use Rattle.cca_laws.specs.ValveExamples.{valve_model}
use Rattle.cca_laws.specs.ObservedExamples.{loose, x_low}
use Rattle.cca_laws.specs.RightExamples.{no_flow}

-- mirroring a variable adds exactly it to those that are mirrored, and neither the plant nor what is pending changes
abbrev pub MirrorsJoin : Type 0
MirrorsJoin = (m : PlantModel) (order : List ℕ) (x y : ExecutiveState) (v : ℕ) → Changes m (IsSorted order) x (event.Mirror v) y
    → ((u : ℕ) → IsTrue (has y.mirrored u) ↔ ((u ≡ v) ⊎ IsTrue (has x.mirrored u))) × (y.plant ≡ x.plant) × (y.pending ≡ x.pending)

-- after a tick the same may be observed again
abbrev pub AgainAfterTick : Type 0
AgainAfterTick = AllMayCome loose (IsSorted []) (start loose 0) (event.Observe (x_low ∷ []) ∷ event.Tick ∷ event.Observe (x_low ∷ []) ∷ [])

-- what is mirrored stays so: after a tick it may not be observed either
abbrev pub MirrorsOutlastTicks : Type 0
MirrorsOutlastTicks = AllMayCome loose (IsSorted []) (start loose 0) (event.Mirror 0 ∷ event.Tick ∷ event.Observe (x_low ∷ []) ∷ []) → ⊥

-- the flow is mirrored; the estimate has the driver on and the valve open, and in the plant the driver is off and the valve closed
abbrev pub misjudged : ExecutiveState
misjudged = record (start valve_model 0) { estimate = 1 ∷ 1 ∷ []; plant = 0 ∷ 0 ∷ []; mirrored = 1 }

-- that there is flow
abbrev pub some_flow : List Pair
some_flow = record { item = 0; value = 1 } ∷ []

-- then it is observed that nothing flows, as in the plant, and not that there is flow, as in the estimate
abbrev pub PlantIsMirrored : Type 0
PlantIsMirrored = Observed valve_model misjudged no_flow × (Observed valve_model misjudged some_flow → ⊥)

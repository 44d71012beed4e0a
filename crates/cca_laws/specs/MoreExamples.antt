-- What stays right from tick to tick, and which events may come.
use Rattle.std.specs.Prelude.{ℕ, List, [], ◌∷◌}
use Rattle.cca_base.specs.declared.cube.Pair.{Pair}
use Rattle.cca_base.specs.declared.events.Event.TheVariants as event
use Rattle.cca_base.specs.declared.events.Reply.TheVariants.{Idle}
use Rattle.cca_base.specs.declared.events.Shown.TheVariants.{Estimated}
use Rattle.cca_base.specs.Orders.{IsSorted}
use Rattle.cca_base.specs.Trace.{start, MayBeGoal, MayCome, AllMayCome}
use Rattle.cca_base.specs.Runs.{TickRecord, StaysRight}
use Rattle.cca_laws.specs.ValveExamples.{valve_model}
use Rattle.cca_laws.specs.ObservedExamples.{loose, x_low}
use Rattle.cca_laws.specs.RightExamples.{wrong_moment}

-- the first tick, and it is right
abbrev pub right_moment : TickRecord
right_moment = record {
  since = [];
  before = start valve_model 0;
  report = record { tick = 1; shown = Estimated 0 (record { modes = 0 ∷ 0 ∷ [] }) Idle };
}

-- a wrong tick after a right one breaks the promise
abbrev pub WrongAfterRight : Type 0
WrongAfterRight = (ways : List (List (List Pair))) (order bounds : List ℕ)
    → StaysRight (record { model = valve_model; ways = ways; order = order; bounds = bounds }) (right_moment ∷ wrong_moment ∷ []) → ⊥

-- a stuck valve is no goal
abbrev pub BrokenIsNoGoal : Type 0
BrokenIsNoGoal = MayBeGoal valve_model (record { item = 1; value = 2 } ∷ []) → ⊥

-- a mirrored variable is not observed
abbrev pub MirroredIsNotObserved : Type 0
MirroredIsNotObserved = MayCome loose [] 1 (event.Observe (x_low ∷ [])) → ⊥

-- nothing is observed twice before a tick
abbrev pub OnceBeforeTick : Type 0
OnceBeforeTick = AllMayCome loose (IsSorted []) (start loose 0) (event.Observe (x_low ∷ []) ∷ event.Observe (x_low ∷ []) ∷ []) → ⊥

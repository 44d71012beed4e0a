-- What each event and each tick changes, and which plans are shown as long.
use Rattle.std.specs.Prelude.{◌≡◌, ℕ, ◌+◌, true, IsTrue, List, [], length, None, slice_set}
use Rattle.cca_base.specs.declared.cube.Pair.{Pair}
use Rattle.cca_base.specs.declared.events.Event.TheVariants as event
use Rattle.cca_base.specs.declared.events.Reply.{Reply}
use Rattle.cca_base.specs.declared.events.PlanEnd.{PlanEnd}
use Rattle.cca_base.specs.declared.events.PlanEnd.TheVariants.{Plan, Long}
use Rattle.cca_base.specs.PlantModel.{PlantModel}
use Rattle.cca_base.specs.Accepted.{CompiledModel}
use Rattle.cca_base.specs.Orders.{IsSorted}
use Rattle.cca_base.specs.Choice.{IsChosenReply}
use Rattle.cca_base.specs.Successors.{Nominal}
use Rattle.cca_base.specs.Trace.{ExecutiveState, Changes, ShowsEstimate, ShowsUnexplained, TickShows, command_of}
use Rattle.cca_base.specs.declared.events.Shown.TheVariants.{Holding}
use Rattle.cca_base.specs.Plans.{ShowsPlan, ShowsBack}

-- a fault moves the plant alone
abbrev pub FaultsMovePlant : Type 0
FaultsMovePlant = (m : PlantModel) (order : List ℕ) (x y : ExecutiveState) (p : Pair) → Changes m (IsSorted order) x (event.Fault p) y
    → (y.plant ≡ slice_set x.plant p.item p.value) × (y.estimate ≡ x.estimate) × (y.goal ≡ x.goal)

-- after clear there is no goal, and the mirrored variables stay
abbrev pub ClearEndsGoal : Type 0
ClearEndsGoal = (m : PlantModel) (order : List ℕ) (x y : ExecutiveState) → Changes m (IsSorted order) x event.Clear y → (y.goal ≡ None) × (y.mirrored ≡ x.mirrored)

-- a command that is sent moves the plant from where it stood, and is the last one
abbrev pub CommandsMovePlant : Type 0
CommandsMovePlant = (b : CompiledModel) (x y : ExecutiveState) (cost : ℕ) (state : List ℕ) (reply : Reply) → ShowsEstimate b.model (IsChosenReply b) x cost state reply y
    → Nominal b.model x.plant (command_of reply) y.plant × (y.estimate ≡ state) × (y.command ≡ command_of reply) × (y.pending ≡ []) × (y.ticks ≡ x.ticks + 1)

-- an unexplained tick leaves the estimate and the plant, ends the last command, and from then on it is holding
abbrev pub UnexplainedHolds : Type 0
UnexplainedHolds = (m : PlantModel) (x y : ExecutiveState) → ShowsUnexplained m x y
    → (y.estimate ≡ x.estimate) × (y.plant ≡ x.plant) × (y.command ≡ None) × (y.holding ≡ true) × (y.pending ≡ [])

-- a holding tick drops what is pending and goes on holding
abbrev pub HoldingGoesOn : Type 0
HoldingGoesOn = (b : CompiledModel) (x y : ExecutiveState) → TickShows b.model (IsChosenReply b) x Holding y → (y.pending ≡ []) × IsTrue y.holding × (y.ticks ≡ x.ticks + 1)

-- ten thousand commands are shown
abbrev pub TenThousandAreShown : Type 0
TenThousandAreShown = (ks : List ℕ) → length ks ≡ 10000 → ShowsPlan (Plan ks) ks × (ShowsPlan Long ks → ⊥)

-- one more is long
abbrev pub OneMoreIsLong : Type 0
OneMoreIsLong = (shown ks : List ℕ) → length ks ≡ 10001 → ShowsPlan Long ks × (ShowsPlan (Plan shown) ks → ⊥)

-- where the plan is long so is the way back, however short
abbrev pub LongBothWays : Type 0
LongBothWays = (back : PlanEnd) (ks : List ℕ) → ShowsBack Long back ks → back ≡ Long

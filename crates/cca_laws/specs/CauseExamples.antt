-- Which commands serve a goal: those that move what is wanted, or a cause of it.
use Rattle.std.specs.Prelude.{List, [], ◌∷◌}
use Rattle.cca_base.specs.declared.cube.Pair.{Pair}
use Rattle.cca_base.specs.declared.events.Reply.TheVariants.{Send}
use Rattle.cca_base.specs.Goals.{IsGoodReply, BeginsPlan}
use Rattle.cca_laws.specs.ValveExamples.{valve_model}

-- the goal that the valve is open
abbrev pub open_wanted : List Pair
open_wanted = record { item = 1; value = 1 } ∷ []

-- the goal that the driver is off
abbrev pub off_wanted : List Pair
off_wanted = record { item = 0; value = 0 } ∷ []

-- to switch the driver on is good where the valve is to open: opening needs the driver
abbrev pub DriverServesValve : Type 0
DriverServesValve = IsGoodReply valve_model (0 ∷ 0 ∷ []) open_wanted (Send 0)

-- where the driver is to be off, a plan that opens the valve first reaches the goal; yet opening is not good: the driver does not need the valve
abbrev pub ValveServesNoDriver : Type 0
ValveServesNoDriver = BeginsPlan valve_model (1 ∷ 0 ∷ []) off_wanted 2 × (IsGoodReply valve_model (1 ∷ 0 ∷ []) off_wanted (Send 2) → ⊥)

-- A valve with its driver, and an engine behind it.
use Rattle.std.specs.Prelude.{◌≡◌, true, false, ℕ, List, [], ◌∷◌, codes}
use Rattle.cca_base.specs.declared.formula.Formula.{Formula, roll-Formula}
use Rattle.cca_base.specs.declared.formula.Formula.TheOpen.{Formula-F}
use Rattle.cca_base.specs.declared.formula.Subject.TheVariants.{Variable}
use Rattle.cca_base.specs.declared.model.Move.{Move}
use Rattle.cca_base.specs.PlantModel.{PlantModel}
use Rattle.cca_base.specs.Model.{WellFormed, IsComplete, is_broken, IsMended, with_component, with_command, with_move}
use Rattle.cca_base.specs.State.{Holds, Follows}
use Rattle.cca_base.specs.Steps.{Step, Allowed, support}
use Rattle.cca_laws.specs.Examples.{component_of, variable_of, free_move}
use Rattle.cca_laws.specs.FormulaExamples.{mode_in}

-- the flow is in the set
abbrev pub flow_in : ℕ → Formula
flow_in set = roll-Formula (Formula-F.Among (Variable 0) set)

-- the driver is on
abbrev pub driver_on : Formula
driver_on = mode_in 0 2

-- the move that switches the driver on
abbrev pub on_move : Move
on_move = free_move 0 0 1 0

-- its way back
abbrev pub off_move : Move
off_move = free_move 0 1 0 1

-- the move that opens the valve
abbrev pub open_move : Move
open_move = record { component = 1; source = 0; target = 1; command = 2; repair = false; guard = driver_on }

-- it has flow exactly while the valve is open
abbrev pub flow_rule : Formula
flow_rule = roll-Formula (Formula-F.Iff (flow_in 2) (mode_in 1 2))

-- the valve and its driver
abbrev pub valve_model : PlantModel
valve_model = record {
  version = 1;
  components =
      component_of (codes "drv") (codes "off" ∷ codes "on" ∷ []) ∷ component_of (codes "valve") (codes "closed" ∷ codes "open" ∷ codes "stuck" ∷ []) ∷ [];
  variables = variable_of (codes "flow") (codes "none" ∷ codes "some" ∷ []) ∷ [];
  rules = flow_rule ∷ [];
  commands = codes "drv_on" ∷ codes "drv_off" ∷ codes "v_open" ∷ codes "v_close" ∷ codes "v_reset" ∷ [];
  moves =
      on_move ∷ off_move ∷ open_move
      ∷ record { component = 1; source = 1; target = 0; command = 3; repair = false; guard = driver_on }
      ∷ record { component = 1; source = 2; target = 0; command = 4; repair = true; guard = driver_on } ∷ [];
  failures = record { component = 1; source = 0; target = 2; cost = 4 } ∷ record { component = 1; source = 1; target = 2; cost = 6 } ∷ [];
}

-- it is well formed, and each of its commands is used
abbrev pub ValveIsWellFormed : Type 0
ValveIsWellFormed = WellFormed valve_model × IsComplete valve_model

-- from the start the driver comes on
abbrev pub DriverComesOn : Type 0
DriverComesOn = Step valve_model (0 ∷ 0 ∷ []) 0 (1 ∷ 0 ∷ [])

-- a stuck valve is broken and mends to closed; a closed or open one is not broken
abbrev pub StuckMends : Type 0
StuckMends = (is_broken valve_model.moves 1 2 ≡ true) × IsMended valve_model.moves 1 2 0 × (is_broken valve_model.moves 1 0 ≡ false) × (is_broken valve_model.moves 1 1 ≡ false)

-- while the driver is off, the guard of opening does not follow, and opening is no step
abbrev pub OpeningNeedsDriver : Type 0
OpeningNeedsDriver = (Follows valve_model (support valve_model (0 ∷ 0 ∷ []) open_move) driver_on → ⊥) × ((s : List ℕ) → Step valve_model (0 ∷ 0 ∷ []) 2 s → ⊥)

-- the move that arms the engine, while nothing flows
abbrev pub arm_move : Move
arm_move = record { component = 2; source = 0; target = 1; command = 5; repair = false; guard = flow_in 1 }

-- the valve with an engine
abbrev pub engine_model : PlantModel
engine_model =
    with_move (with_command (with_component valve_model (component_of (codes "eng") (codes "off" ∷ codes "armed" ∷ []))) (codes "eng_arm")) arm_move

-- behind a stuck valve nothing flows, yet arming is no step: it would lean on the stuck valve
abbrev pub StuckIsNotLeanedOn : Type 0
StuckIsNotLeanedOn = Holds engine_model (1 ∷ 2 ∷ 0 ∷ []) (flow_in 1) × ((s : List ℕ) → Step engine_model (1 ∷ 2 ∷ 0 ∷ []) 5 s → ⊥)

-- behind a closed valve it is one
abbrev pub ClosedIsLeanedOn : Type 0
ClosedIsLeanedOn = Step engine_model (1 ∷ 0 ∷ 0 ∷ []) 5 (1 ∷ 0 ∷ 1 ∷ [])

-- the valve without a way to close it again
abbrev pub no_way_back : PlantModel
no_way_back = record valve_model {
  commands = codes "drv_on" ∷ codes "drv_off" ∷ codes "v_open" ∷ codes "v_reset" ∷ [];
  moves = on_move ∷ off_move ∷ open_move ∷ record { component = 1; source = 2; target = 0; command = 3; repair = true; guard = driver_on } ∷ [];
}

-- opening is a step in it, and no allowed one
abbrev pub OpeningForGood : Type 0
OpeningForGood = Step no_way_back (1 ∷ 0 ∷ []) 2 (1 ∷ 1 ∷ []) × ((s : List ℕ) → Allowed no_way_back (1 ∷ 0 ∷ []) 2 s → ⊥)

-- with a way back opening is allowed
abbrev pub OpeningIsAllowed : Type 0
OpeningIsAllowed = Allowed valve_model (1 ∷ 0 ∷ []) 2 (1 ∷ 1 ∷ [])

-- What successors of small models cost, and an estimate.
use Rattle.std.specs.Prelude.{◌≡◌, ◌↔◌, ℕ, [], ◌∷◌, codes, Some, None}
use Rattle.cca_base.specs.declared.formula.Formula.{Formula, roll-Formula}
use Rattle.cca_base.specs.declared.formula.Formula.TheOpen.{Formula-F}
use Rattle.cca_base.specs.PlantModel.{PlantModel}
use Rattle.cca_base.specs.Model.{with_failure}
use Rattle.cca_base.specs.Successors.{Costs}
use Rattle.cca_base.specs.Estimates.{Estimate}
use Rattle.cca_laws.specs.Examples.{component_of, variable_of}
use Rattle.cca_laws.specs.FormulaExamples.{mode_in, both, either}
use Rattle.cca_laws.specs.ValveExamples.{flow_in, valve_model}

-- a valve that may fall open by itself
abbrev pub falling_open : PlantModel
falling_open = with_failure valve_model (record { component = 1; source = 0; target = 1; cost = 3 })

-- when it is opened by command, to be open costs nothing
abbrev pub OpeningIsFree : Type 0
OpeningIsFree = (cost : ℕ) → Costs falling_open (1 ∷ 0 ∷ []) (Some 2) (1 ∷ 1 ∷ []) cost ↔ (cost ≡ 0)

-- a valve that may stay closed when it should open
abbrev pub staying_shut : PlantModel
staying_shut = with_failure valve_model (record { component = 1; source = 0; target = 0; cost = 3 })

-- when it is opened by command, to be closed costs what that failure costs
abbrev pub StayingShutCosts : Type 0
StayingShutCosts = (cost : ℕ) → Costs staying_shut (1 ∷ 0 ∷ []) (Some 2) (1 ∷ 0 ∷ []) cost ↔ (cost ≡ 3)

-- without a command it costs nothing
abbrev pub StandingIsFree : Type 0
StandingIsFree = (cost : ℕ) → Costs staying_shut (1 ∷ 0 ∷ []) None (1 ∷ 0 ∷ []) cost ↔ (cost ≡ 0)

-- a valve that may get stuck in two ways while it is closed, at 4 and at 7
abbrev pub stuck_twice : PlantModel
stuck_twice = with_failure valve_model (record { component = 1; source = 0; target = 2; cost = 7 })

-- to be stuck costs 4, and neither 7 nor both together
abbrev pub LesserFailureCounts : Type 0
LesserFailureCounts = (cost : ℕ) → Costs stuck_twice (0 ∷ 0 ∷ []) None (0 ∷ 2 ∷ []) cost ↔ (cost ≡ 4)

-- the output is poor exactly where p and q are bad, or r is
abbrev pub poor_rule : Formula
poor_rule = roll-Formula (Formula-F.Iff (flow_in 2) (either (both (mode_in 0 2) (mode_in 1 2)) (mode_in 2 2)))

-- three components that may go bad
abbrev pub three : PlantModel
three = record {
  version = 1;
  components =
      component_of (codes "p") (codes "ok" ∷ codes "bad" ∷ []) ∷ component_of (codes "q") (codes "ok" ∷ codes "bad" ∷ [])
      ∷ component_of (codes "r") (codes "ok" ∷ codes "bad" ∷ []) ∷ [];
  variables = variable_of (codes "out") (codes "good" ∷ codes "poor" ∷ []) ∷ [];
  rules = poor_rule ∷ [];
  commands = [];
  moves = [];
  failures =
      record { component = 0; source = 0; target = 1; cost = 4 } ∷ record { component = 1; source = 0; target = 1; cost = 6 } ∷ record { component = 2; source = 0; target = 1; cost = 11 }
      ∷ [];
}

-- where the output is seen to be poor, p and q are taken to be bad, at 4 and 6: r alone costs 11
abbrev pub TwoForOne : Type 0
TwoForOne = Estimate three (0 ∷ 0 ∷ 0 ∷ []) None (record { item = 0; value = 1 } ∷ []) (1 ∷ 1 ∷ 0 ∷ []) 10

-- Which of two worlds is the first, and which of two states of one cost is the estimate.
use Rattle.std.specs.Prelude.{ℕ, [], ◌∷◌, codes, None}
use Rattle.cca_base.specs.declared.formula.Formula.{Formula, roll-Formula}
use Rattle.cca_base.specs.declared.formula.Formula.TheOpen.{Formula-F}
use Rattle.cca_base.specs.PlantModel.{PlantModel}
use Rattle.cca_base.specs.Estimates.{Estimate}
use Rattle.cca_base.specs.Plans.{IsFirstWorld}
use Rattle.cca_laws.specs.Examples.{component_of, variable_of}
use Rattle.cca_laws.specs.FormulaExamples.{mode_in, both}
use Rattle.cca_laws.specs.ValveExamples.{flow_in}
use Rattle.cca_laws.specs.ObservedExamples.{loose, y_high}
use Rattle.cca_laws.specs.RightExamples.{no_flow}

-- where y is seen to be high and x may be either, the world in which x is low is the first
abbrev pub LesserWorldIsFirst : Type 0
LesserWorldIsFirst = IsFirstWorld loose [] (y_high ∷ []) (0 ∷ 1 ∷ [])

-- and that in which x is high is not
abbrev pub GreaterWorldIsNot : Type 0
GreaterWorldIsNot = IsFirstWorld loose [] (y_high ∷ []) (1 ∷ 1 ∷ []) → ⊥

-- there is flow exactly while the pump is on and the pipe is fine
abbrev pub pipe_rule : Formula
pipe_rule = roll-Formula (Formula-F.Iff (flow_in 2) (both (mode_in 0 1) (mode_in 1 1)))

-- a pump that may die and a pipe that may burst, each at cost 5
abbrev pub pumping : PlantModel
pumping = record {
  version = 1;
  components =
      component_of (codes "pump") (codes "on" ∷ codes "dead" ∷ []) ∷ component_of (codes "pipe") (codes "fine" ∷ codes "burst" ∷ []) ∷ [];
  variables = variable_of (codes "flow") (codes "none" ∷ codes "some" ∷ []) ∷ [];
  rules = pipe_rule ∷ [];
  commands = [];
  moves = [];
  failures = record { component = 0; source = 0; target = 1; cost = 5 } ∷ record { component = 1; source = 0; target = 1; cost = 5 } ∷ [];
}

-- where nothing flows, the pump is taken to be on and the pipe to be burst: the first in mode order of two states of cost 5
abbrev pub PipeIsBurst : Type 0
PipeIsBurst = Estimate pumping (0 ∷ 0 ∷ []) None no_flow (0 ∷ 1 ∷ []) 5

-- that the pump is dead and the pipe fine is not the estimate, at any cost
abbrev pub PumpIsNotDead : Type 0
PumpIsNotDead = (cost : ℕ) → Estimate pumping (0 ∷ 0 ∷ []) None no_flow (1 ∷ 0 ∷ []) cost → ⊥

-- Lines of traces, byte for byte.
use Rattle.std.specs.Prelude.{◌≡◌, [], ◌∷◌, ◌++◌, codes, true}
use Rattle.cca_base.specs.declared.events.PlanEnd.TheVariants as plans
use Rattle.cca_base.specs.declared.events.Reply.TheVariants.{Send}
use Rattle.cca_base.specs.declared.events.Shown.TheVariants.{Estimated}
use Rattle.cca_base.specs.PlantModel.{PlantModel}
use Rattle.cca_base.specs.Model.{empty_model}
use Rattle.trace_text.specs.declared.trace_line.TraceLine.TheVariants.{Tick, World, Plan, Back}
use Rattle.trace_text.specs.JsonExamples.{line, valve_names}
use Rattle.trace_text.specs.ProofLines.{route_text}
use Rattle.trace_text.specs.TraceLines.{trace_line}

-- the valve and its driver, with two variables
abbrev pub valve_variables : PlantModel
valve_variables = record valve_names {
  variables =
      record { name = codes "flow"; values = codes "none" ∷ codes "some" ∷ []; sensed = true }
      ∷ record { name = codes "lamp"; values = codes "dark" ∷ codes "lit" ∷ []; sensed = true } ∷ [];
}

-- the first tick sends the command for the driver
abbrev pub TickOfValve : Type 0
TickOfValve = trace_line valve_variables (Tick (record { tick = 1; shown = Estimated 0 (record { modes = 0 ∷ 0 ∷ [] }) (Send 0) }))
    ≡ line (codes "tick 1 cost 0 modes drv=off valve=closed send drv_on")

-- each variable has its own value
abbrev pub WorldOfValve : Type 0
WorldOfValve = trace_line valve_variables (World (record { values = 0 ∷ 1 ∷ [] })) ≡ line (codes "world flow=none lamp=lit")

-- the plan comes before the way back; one without commands is the bare word
abbrev pub RouteOfValve : Type 0
RouteOfValve = route_text valve_variables (record { plan = plans.Plan (0 ∷ 2 ∷ 1 ∷ []); back = plans.Plan [] }) ≡ line (codes "plan drv_on v_open drv_off") ++ line (codes "back")

-- two commands, one of which is named `long`
abbrev pub long_named : PlantModel
long_named = record (empty_model 1) { commands = codes "long" ∷ codes "short" ∷ [] }

-- the command alone has one more space than a plan that is too long to be printed
abbrev pub LongStandsAlone : Type 0
LongStandsAlone = (trace_line long_named (Plan (plans.Plan (0 ∷ []))) ≡ line (codes "plan  long")) × (trace_line long_named (Back plans.Long) ≡ line (codes "back long"))

-- with other commands it stands as they do
abbrev pub LongStandsWithOthers : Type 0
LongStandsWithOthers = trace_line long_named (Plan (plans.Plan (0 ∷ 1 ∷ []))) ≡ line (codes "plan long short")

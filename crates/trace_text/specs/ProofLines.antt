-- The lines that follow a tick's line as its proof: a world of the estimate, the plan, and the way back.
use Rattle.std.specs.Prelude.{ℕ, List, ◌++◌, codes}
use Rattle.cca_base.specs.declared.state.World.{World}
use Rattle.cca_base.specs.declared.events.PlanEnd.{PlanEnd}
use Rattle.cca_base.specs.declared.events.Route.{Route}
use Rattle.cca_base.specs.PlantModel.{PlantModel}
use Rattle.trace_text.specs.LineWords.{value_words, plan_words}
use Rattle.trace_text.specs.Words.{spaced_line}

-- the line of a world
unfoldable pub world_line : PlantModel → World → List ℕ
world_line m world = spaced_line (codes "world") (value_words m.variables world.values)

-- the line of a plan that begins with a word
abbrev pub plan_line : List ℕ → PlantModel → PlanEnd → List ℕ
plan_line word m end = spaced_line word (plan_words m.commands end)

-- the lines of a plan and of the way back
unfoldable pub route_text : PlantModel → Route → List ℕ
route_text m route = plan_line (codes "plan") m route.plan ++ plan_line (codes "back") m route.back

-- A component that a reset mends, and one that goes back only while the other stands in its last mode.
use Rattle.std.specs.Prelude.{◌≡◌, ◌↔◌, false, ℕ, List, [], ◌∷◌, codes}
use Rattle.cca_base.specs.declared.cube.Pair.{Pair}
use Rattle.cca_base.specs.declared.events.PlanEnd.TheVariants.{Plan}
use Rattle.cca_base.specs.declared.model.Move.{Move}
use Rattle.cca_base.specs.PlantModel.{PlantModel}
use Rattle.cca_base.specs.Accepted.{CompiledModel, IsCompiled}
use Rattle.cca_base.specs.Plans.{IsBackGoal, IsRoute}
use Rattle.cca_base.specs.Steps.{Run, Allowed}
use Rattle.cca_laws.specs.Examples.{component_of, free_move, free_repair, moving}
use Rattle.cca_laws.specs.FormulaExamples.{mode_in}

-- the repair of c, from m to ok
abbrev pub reset_move : Move
reset_move = free_repair 0 0 1 0

-- the move of c from ok to z
abbrev pub z_move : Move
z_move = free_move 0 1 2 1

-- its way back
abbrev pub ok_move : Move
ok_move = free_move 0 2 1 2

-- the move of b from x to y
abbrev pub go_move : Move
go_move = free_move 1 0 1 3

-- its way back, while c is z
abbrev pub back_move : Move
back_move = record { component = 1; source = 1; target = 0; command = 4; repair = false; guard = mode_in 0 4 }

-- c is m, ok or z, and starts broken; b is x or y
abbrev pub mending : PlantModel
mending =
    moving 1 (component_of (codes "c") (codes "m" ∷ codes "ok" ∷ codes "z" ∷ []) ∷ component_of (codes "b") (codes "x" ∷ codes "y" ∷ []) ∷ [])
    (codes "c_reset" ∷ codes "c_z" ∷ codes "c_ok" ∷ codes "b_go" ∷ codes "b_back" ∷ []) (reset_move ∷ z_move ∷ ok_move ∷ go_move ∷ back_move ∷ [])

-- c = ok
abbrev pub c_is_ok : Pair
c_is_ok = record { item = 0; value = 1 }

-- c = z
abbrev pub c_is_z : Pair
c_is_z = record { item = 0; value = 2 }

-- b = x
abbrev pub b_is_x : Pair
b_is_x = record { item = 1; value = 0 }

-- b = y
abbrev pub b_is_y : Pair
b_is_y = record { item = 1; value = 1 }

-- the model, compiled: only going back needs something, b comes before its cause c, and two commands and three are enough for c and b
abbrev pub mending_compiled : CompiledModel
mending_compiled = record {
  model = mending;
  ways = ([] ∷ []) ∷ ([] ∷ []) ∷ ([] ∷ []) ∷ ([] ∷ []) ∷ ((c_is_z ∷ []) ∷ []) ∷ [];
  order = 1 ∷ 0 ∷ [];
  bounds = 2 ∷ 3 ∷ [];
}

-- that is what is compiled
abbrev pub MendingIsCompiled : Type 0
MendingIsCompiled = IsCompiled mending_compiled

-- from the start, where c is broken, it is allowed to move b to y, though no commands lead back to the start
abbrev pub GoingIsAllowed : Type 0
GoingIsAllowed = Allowed mending (0 ∷ 0 ∷ []) 3 (0 ∷ 1 ∷ []) × ((ks : List ℕ) → Run mending (0 ∷ 1 ∷ []) ks (0 ∷ 0 ∷ []) → ⊥)

-- the goal of the way back to the start is that b is x and c is mended, and no other
abbrev pub BackGoalIsMended : Type 0
BackGoalIsMended = (goal : List Pair) → IsBackGoal mending_compiled (0 ∷ 0 ∷ []) goal ↔ (goal ≡ b_is_x ∷ c_is_ok ∷ [])

-- b_go leads to b = y; the way back mends c, brings it to z, moves b back, and brings c to ok
abbrev pub RouteComesBack : Type 0
RouteComesBack = IsRoute mending_compiled (0 ∷ 0 ∷ []) (b_is_y ∷ []) (record { plan = Plan (3 ∷ []); back = Plan (0 ∷ 1 ∷ 4 ∷ 2 ∷ []) })

-- Ways back, and plans with their ways back.
use Rattle.std.specs.Prelude.{◌≡◌, ◌⊎◌, ◌↔◌, ℕ, true, false, List, slice_get, slice_index, Some, Contains}
use Rattle.cca_base.specs.declared.cube.Pair.{Pair}
use Rattle.cca_base.specs.declared.events.PlanEnd.{PlanEnd}
use Rattle.cca_base.specs.declared.events.PlanEnd.TheVariants.{Plan, Long}
use Rattle.cca_base.specs.declared.events.Route.{Route}
use Rattle.cca_base.specs.Flags.{is_set}
use Rattle.cca_base.specs.Model.{IsMended, IsInChain, is_broken}
use Rattle.cca_base.specs.Orders.{AreInOrder}
use Rattle.cca_base.specs.Plans.{IsBackGoal}
use Rattle.cca_base.specs.Repairs.{Mending}
use Rattle.reversibility.specs.ClassParts.{ClassParts}
use Rattle.planner_step.specs.Served.{IsStuck}
use Rattle.policy_tables.specs.Tables.{TableParts}
use Rattle.plan_runner.specs.Plans.{IsWholePlan}

-- where a component is to go back to: its mode in the state if that is not broken, and else its mended mode if it is mendable
abbrev pub GoesBackTo : ClassParts → List ℕ → Pair → Type 0
GoesBackTo c s p =
    ((slice_get s p.item ≡ Some p.value) × (is_broken c.compiled.model.moves p.item p.value ≡ false))
    ⊎ ((mode : ℕ) × (slice_get s p.item ≡ Some mode) × IsMended c.compiled.model.moves p.item mode p.value × (is_set c.mendable p.item ≡ true))

-- what is broken in the second state and can't be mended stands in the first in a mode of the chain of its mode there
abbrev pub StaysStuck : ClassParts → List ℕ → List ℕ → Type 0
StaysStuck c from to = (d : ℕ) → IsStuck c to d → IsInChain c.compiled.model.moves d (slice_index to d) (slice_index from d)

-- the component goes back to this mode, and to no other
abbrev pub GoesOnlyTo : ClassParts → List ℕ → ℕ → ℕ → Type 0
GoesOnlyTo c s d v = (x : ℕ) → GoesBackTo c s (record { item = d; value = x }) ↔ (x ≡ v)

-- it goes back nowhere
abbrev pub GoesNowhere : ClassParts → List ℕ → ℕ → Type 0
GoesNowhere c s d = (x : ℕ) → GoesBackTo c s (record { item = d; value = x }) → ⊥

-- the pairs are those of the components of the order, in the order
pub record AreBackPairs (c : ClassParts) (s order : List ℕ) (pairs : List Pair) : Type 0 where
  pub in_order : AreInOrder order pairs
  pub each : (p : Pair) → Contains pairs p ↔ (Contains order p.item × GoesBackTo c s p)

-- the shown way back is the whole plan for exactly these modes, and ends in a mending
pub record IsWholeWayBack (t : TableParts) (from s : List ℕ) (shown : PlanEnd) : Type 0 where
  pub goal : List Pair
  pub is_goal : IsBackGoal t.classes.compiled s goal
  pub names : (p : Pair) → Contains goal p ↔ GoesBackTo t.classes s p
  pub plan : IsWholePlan t from goal shown
  pub mends : Mending t.classes.compiled.model s plan.last

-- where the plan is long, so is the way back
abbrev pub IsBackOf : TableParts → List ℕ → List ℕ → PlanEnd → PlanEnd → Type 0
IsBackOf t s there (Plan shown) back = IsWholeWayBack t there s back
IsBackOf t s there Long back = back ≡ Long

-- the whole plan for the goal, and the way back from its end
pub record IsThereAndBack (t : TableParts) (s : List ℕ) (goal : List Pair) (route : Route) : Type 0 where
  pub plan : IsWholePlan t s goal route.plan
  pub back : IsBackOf t s plan.last route.plan route.back

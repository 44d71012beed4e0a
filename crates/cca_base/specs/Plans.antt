-- Whole plans, the way back, and what is shown of them.
use Rattle.std.specs.Prelude.{◌≡◌, ℕ, ◌<◌, ◌≤◌, ◌⊎◌, ◌↔◌, false, List, [], ◌∷◌, length, Contains, slice_get, Some}
use Rattle.cca_base.specs.declared.cube.Pair.{Pair}
use Rattle.cca_base.specs.declared.events.PlanEnd.{PlanEnd}
use Rattle.cca_base.specs.declared.events.PlanEnd.TheVariants.{Plan, Long}
use Rattle.cca_base.specs.declared.events.Route.{Route}
use Rattle.cca_base.specs.declared.events.Reply.{Reply}
use Rattle.cca_base.specs.declared.limits.TheConstants.{MAX_PLAN}
use Rattle.cca_base.specs.PlantModel.{PlantModel}
use Rattle.cca_base.specs.Accepted.{CompiledModel, IsCompiled}
use Rattle.cca_base.specs.Model.{is_broken, IsMended}
use Rattle.cca_base.specs.State.{Extends, IsWorld}
use Rattle.cca_base.specs.Steps.{Step, Reach}
use Rattle.cca_base.specs.Orders.{AreInOrder}
use Rattle.cca_base.specs.Estimates.{IsEarlier}
use Rattle.cca_base.specs.Choice.{PicksForGoal, IsChosenReply}
use Rattle.cca_base.specs.Bounds.{stated_number}
use Rattle.cca_base.specs.Runs.{is_unreachable}

-- the picked commands, each applied as its step, from a state until the goal stands
abbrev pub Whole : CompiledModel → List Pair → List ℕ → List ℕ → List ℕ → Type 0
Whole b goal s [] last = Extends s goal × (last ≡ s)
Whole b goal s (k ∷ ks) last =
    (Extends s goal → ⊥) × PicksForGoal b s goal k × (next : List ℕ) × Step b.model s k next × Whole b goal next ks last

-- the picked commands lead to the goal, and they are no more than its stated number
abbrev pub CanBeServed : CompiledModel → List ℕ → List Pair → Type 0
CanBeServed b s goal = (ks last : List ℕ) × Whole b goal s ks last × (length ks ≤ stated_number b.bounds goal)

-- a good reply with the picked command; unless it is that the goal can't be reached, the picked commands lead there in time
pub record Promising (b : CompiledModel) (s : List ℕ) (goal : List Pair) (reply : Reply) : Type 0 where
  pub chosen : IsChosenReply b s goal reply
  pub served : is_unreachable (Some reply) ≡ false → CanBeServed b s goal

-- where a component is to go back to: its mode in the state if that is not broken, and else its mended mode if that can be reached
abbrev pub IsWanted : PlantModel → List ℕ → Pair → Type 0
IsWanted m s p =
    ((slice_get s p.item ≡ Some p.value) × (is_broken m.moves p.item p.value ≡ false))
    ⊎ ((mode : ℕ) × (slice_get s p.item ≡ Some mode) × IsMended m.moves p.item mode p.value × Reach m s p.item p.value)

-- the sorted goal of exactly these pairs
pub record IsBackGoal (b : CompiledModel) (s : List ℕ) (goal : List Pair) : Type 0 where
  pub in_order : AreInOrder b.order goal
  pub each : (p : Pair) → Contains goal p ↔ IsWanted b.model s p

-- the picked commands from one state back to where the other stood
pub record Back (b : CompiledModel) (from s ks last : List ℕ) : Type 0 where
  pub goal : List Pair
  pub is_goal : IsBackGoal b s goal
  pub whole : Whole b goal from ks last

-- ---- what is shown

-- the commands are shown one by one, or as long where they are more than may be shown
abbrev pub ShowsPlan : PlanEnd → List ℕ → Type 0
ShowsPlan (Plan shown) ks = (shown ≡ ks) × (length ks ≤ MAX_PLAN)
ShowsPlan Long ks = MAX_PLAN < length ks

-- where the plan is shown as long, so is the way back
abbrev pub ShowsBack : PlanEnd → PlanEnd → List ℕ → Type 0
ShowsBack (Plan shown) back ks = ShowsPlan back ks
ShowsBack Long back ks = back ≡ Long

-- the whole plan from the state to the goal, and the way back from its end to the state
pub record IsRoute (b : CompiledModel) (s : List ℕ) (goal : List Pair) (route : Route) : Type 0 where
  pub compiled : IsCompiled b
  pub plan : List ℕ
  pub there : List ℕ
  pub whole : Whole b goal s plan there
  pub back : List ℕ
  pub last : List ℕ
  pub way_back : Back b there s back last
  pub shows_plan : ShowsPlan route.plan plan
  pub shows_back : ShowsBack route.plan route.back back

-- the first world of the state, in value order, that agrees with what is seen
pub record IsFirstWorld (m : PlantModel) (s : List ℕ) (seen : List Pair) (w : List ℕ) : Type 0 where
  pub world : IsWorld m s w
  pub agrees : Extends w seen
  pub first : (other : List ℕ) → IsWorld m s other → Extends other seen → IsEarlier other w → ⊥

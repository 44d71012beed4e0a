-- Ways back, and plans with their ways back.
use Rattle.std.proofs.Common.{◌<◌, ◌≤◌, ℕ, List, length, refl, sym}
use Rattle.cca_base.specs.declared.cube.Pair.{Pair}
use Rattle.cca_base.specs.declared.events.PlanEnd.{PlanEnd}
use Rattle.cca_base.specs.declared.events.PlanEnd.TheVariants.{Plan, Long}
use Rattle.cca_base.specs.declared.limits.TheConstants.{MAX_PLAN}
use Rattle.cca_base.specs.Accepted.{CompiledModel}
use Rattle.cca_base.specs.Plans.{Whole, IsBackGoal, IsRoute}
use Rattle.cca_base.specs.Steps.{AreReached}
use Rattle.reach_laws.specs.Classes.{AreInside}
use Rattle.reach_laws.proofs.Answered as reach
use Rattle.reversibility.specs.ClassParts.{CoversState}
use Rattle.policy_tables.specs.Tables.{TableParts, IsTables}
use Rattle.planner_step.specs.Planning.{member_of, IsGoal}
use Rattle.planner_step.proofs.Covered.{setting}
use Rattle.planner_step.proofs.Stuck.{stuck_empty}
use Rattle.plan_runner.proofs.StillStuck.{stays_on_chain}
use Rattle.planner_step.proofs.Replies.{inside_reached, goal_inside}
use Rattle.plan_runner.specs.Plans.{IsWholePlan}
use Rattle.plan_runner.specs.WaysBack.{StaysStuck, AreBackPairs, IsWholeWayBack, IsThereAndBack}
use Rattle.planner_step.proofs.Along.{plan_of, some_plan}
use Rattle.plan_runner.proofs.GoingBack.{some_goal, names_all, back_goal_is, back_is_goal}

module _ (t : TableParts) (is : IsTables t) where
  abbrev b : CompiledModel
  b = t.classes.compiled

  module _ (to : List ℕ) (cov : CoversState t.classes to) (goal : List Pair) (pairs : AreBackPairs t.classes to b.order goal) where
    pub goal_back : IsGoal b goal
    goal_back = (back_is_goal t is to cov goal (back_goal_is t is to cov goal pairs)).1

    inside_back : AreInside (member_of t) goal
    inside_back = (back_is_goal t is to cov goal (back_goal_is t is to cov goal pairs)).0

    pub reached_back : (from : List ℕ) → CoversState t.classes from → AreReached b.model from goal
    reached_back from cov_from = inside_reached t is from cov_from goal goal_back inside_back

    pub way_of : (from : List ℕ) → CoversState t.classes from → StaysStuck t.classes from to → (shown : PlanEnd) → IsWholePlan t from goal shown → IsWholeWayBack t from to shown
    way_of from cov_from stays shown plan =
        let is_goal : IsBackGoal b to goal = back_goal_is t is to cov goal pairs in
        record {
          goal = goal;
          is_goal = is_goal;
          names = names_all t is to cov goal pairs;
          plan = plan;
          mends = (reach.way_back b t.classes.base (member_of t) from to (setting t is to cov) cov_from.state cov_from.covers (stays_on_chain t is to from stays) goal is_goal).1 plan.commands plan.last plan.plan.whole;
        }

    some_way : (from : List ℕ) → CoversState t.classes from → (ks last : List ℕ) × Whole b goal from ks last
    some_way from cov_from = some_plan t is from cov_from goal pairs.in_order inside_back

  module _ (s : List ℕ) (cov : CoversState t.classes s) (goal : List Pair) (g : IsGoal b goal) (reached : AreReached b.model s goal) where
    inside : AreInside (member_of t) goal
    inside = goal_inside t is s cov goal g reached

    pub covers_end : (ks last : List ℕ) → Whole b goal s ks last → CoversState t.classes last
    covers_end ks last whole =
        let end = reach.whole_is_allowed b t.classes.base (member_of t) s (setting t is s cov) goal ks last inside whole in
        record { state = end.2.state; covers = end.2.covers }

    pub still_stuck : (ks last : List ℕ) → Whole b goal s ks last → StaysStuck t.classes last s
    still_stuck ks last whole d stuck =
        (0, sym (reach.empty_stays b t.classes.base (member_of t) s (setting t is s cov) goal ks last inside whole d (stuck_empty t is s cov d stuck)))

    pub ended_back : (ks last : List ℕ) (shown : PlanEnd) → Whole b goal s ks last → length ks ≤ MAX_PLAN → IsWholeWayBack t last s shown
        → IsThereAndBack t s goal (record { plan = Plan ks; back = shown })
    ended_back ks last shown whole short back = record {
      plan = record { commands = ks; last = last; plan = plan_of t is s cov goal g.in_order inside ks last whole; shows = (refl, short) };
      back = back;
    }

    pub endless : (ks last : List ℕ) → Whole b goal s ks last → MAX_PLAN < length ks → IsRoute b s goal (record { plan = Long; back = Long })
    endless ks last whole long =
        let home = some_goal t is s cov in
        let way = some_way s cov home.0 home.1 last (covers_end ks last whole) in
        record {
          compiled = is.classes.compiled;
          plan = ks;
          there = last;
          whole = whole;
          back = way.0;
          last = way.1;
          way_back = record { goal = home.0; is_goal = back_goal_is t is s cov home.0 home.1; whole = way.2 };
          shows_plan = long;
          shows_back = refl;
        }

    pub endless_back : (ks last : List ℕ) → Whole b goal s ks last → MAX_PLAN < length ks → IsThereAndBack t s goal (record { plan = Long; back = Long })
    endless_back ks last whole long = record {
      plan = record { commands = ks; last = last; plan = plan_of t is s cov goal g.in_order inside ks last whole; shows = long };
      back = refl;
    }

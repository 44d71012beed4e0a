-- Whole plans, as they are shown.
use Rattle.std.specs.Prelude.{ℕ, List}
use Rattle.cca_base.specs.declared.cube.Pair.{Pair}
use Rattle.cca_base.specs.declared.events.PlanEnd.{PlanEnd}
use Rattle.cca_base.specs.Plans.{ShowsPlan}
use Rattle.policy_tables.specs.Tables.{TableParts}
use Rattle.planner_step.specs.Served.{IsPlanTo}

-- the shown plan is that of the picked commands to the goal
pub record IsWholePlan (t : TableParts) (s : List ℕ) (goal : List Pair) (shown : PlanEnd) : Type 0 where
  pub commands : List ℕ
  pub last : List ℕ
  pub plan : IsPlanTo t s goal commands last
  pub shows : ShowsPlan shown commands

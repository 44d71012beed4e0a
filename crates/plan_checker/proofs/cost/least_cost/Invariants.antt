use Rattle.std.proofs.Common.{take}
use Rattle.cca_base.specs.LeastCosts.{IsLeast}
use Rattle.plan_checker.proofs.cost.least_cost.Given as goal

abbrev pub invariant-loop-failure : goal.invariant-loop-failure
invariant-loop-failure l = IsLeast (take l.failure-index l.failure-items) l.component l.from l.to l.least

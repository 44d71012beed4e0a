use Rattle.std.proofs.Common.{◌≡◌, ◌≤◌, All, length}
use Rattle.cca_base.specs.declared.limits.TheConstants.{MAX_WEIGHT}
use Rattle.conformance_plan.proofs.wishes.row_of.Given as goal

abbrev pub invariant-loop-weight : goal.invariant-loop-weight
invariant-loop-weight l = (length l.row ≡ l.weight-index) × All (λ weight. weight ≤ MAX_WEIGHT) l.row

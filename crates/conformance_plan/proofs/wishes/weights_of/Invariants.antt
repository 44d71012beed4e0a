use Rattle.std.proofs.Common.{◌≡◌, ◌≤◌, All, length, map, take}
use Rattle.cca_base.specs.Model.{mode_counts}
use Rattle.cca_base.specs.declared.limits.TheConstants.{MAX_WEIGHT}
use Rattle.conformance_plan.proofs.wishes.weights_of.Given as goal

-- each row so far is full, and its weights are small
abbrev pub invariant-loop-c : goal.invariant-loop-c
invariant-loop-c l = (map length l.rows ≡ take l.c (mode_counts l.model)) × All (All (λ weight. weight ≤ MAX_WEIGHT)) l.rows

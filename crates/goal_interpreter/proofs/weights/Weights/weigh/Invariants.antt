use Rattle.std.proofs.Common.{◌≡◌, ◌≤◌, ◌*◌, take}
use Rattle.wish_laws.specs.Settled.{weight_of}
use Rattle.cca_base.specs.declared.limits.TheConstants.{MAX_WEIGHT}
use Rattle.goal_interpreter.proofs.weights.Weights.weigh.Given as goal

abbrev pub invariant-loop-c : goal.invariant-loop-c
invariant-loop-c l = (l.sum ≡ weight_of (take l.c l.self.rows) (take l.c l.state.modes)) × (l.sum ≤ l.c * MAX_WEIGHT)

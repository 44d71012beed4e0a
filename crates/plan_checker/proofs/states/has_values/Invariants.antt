use Rattle.std.proofs.Common.{◌<◌, ℕ, slice_index}
use Rattle.cca_base.specs.State.{HasValue}
use Rattle.plan_checker.proofs.states.has_values.Given as goal

abbrev pub invariant-loop-at : goal.invariant-loop-at
invariant-loop-at l = (v : ℕ) → v < l.at → HasValue l.model v (slice_index l.values v)

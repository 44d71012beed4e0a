use Rattle.std.proofs.Common.{ℕ, ◌<◌, slice_index}
use Rattle.cca_base.specs.MoveIndex.{IsMoveNamed}
use Rattle.trajectory_estimator.proofs.before.Before.named.Given as goal

-- none of the numbers before names its move in the modes
abbrev pub invariant-loop-number : goal.invariant-loop-number
invariant-loop-number l = (k : ℕ) → k < l.number-index → IsMoveNamed l.self.paths.query.now.model.moves l.self.modes.now l.command (slice_index l.number-items k) → ⊥

use Rattle.std.proofs.Common.{map}
use Rattle.trajectory_estimator.proofs.ChangeTables.{HaveBelow}
use Rattle.trajectory_estimator.proofs.changes.Changes.of.Given as goal

abbrev pub invariant-loop-mode : goal.invariant-loop-mode
invariant-loop-mode l = HaveBelow l.model (map (λ r. r.items) l.rows.items) l.mode

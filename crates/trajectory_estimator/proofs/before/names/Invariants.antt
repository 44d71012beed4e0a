use Rattle.std.proofs.Common.{◌≢◌, All, take}
use Rattle.trajectory_estimator.proofs.before.names.Given as goal

abbrev pub invariant-loop-pair : goal.invariant-loop-pair
invariant-loop-pair l = All (λ p. p.item ≢ l.item) (take l.pair-index l.pairs)

use Rattle.std.proofs.Common.{◌≡◌, All, Some, slice_get, take, true}
use Rattle.trajectory_estimator.specs.Clashes.{knows}
use Rattle.trajectory_estimator.proofs.before.Before.failing.Given as goal

abbrev pub invariant-loop-pair : goal.invariant-loop-pair
invariant-loop-pair l = All (λ p. knows l.self p.item ≡ true → slice_get l.self.modes.now p.item ≡ Some p.value) (take l.pair-index l.pair-items)

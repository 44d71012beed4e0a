use Rattle.std.proofs.Common.{All, take}
use Rattle.trajectory_estimator.specs.Clashes.{IsKnown}
use Rattle.trajectory_estimator.proofs.before.Before.stands.Given as goal

abbrev pub invariant-loop-pair : goal.invariant-loop-pair
invariant-loop-pair l = All (IsKnown l.self) (take l.pair-index l.pair-items)

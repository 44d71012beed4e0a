use Rattle.std.proofs.Common.{All, take}
use Rattle.trajectory_estimator.specs.Clashes.{MayFail}
use Rattle.trajectory_estimator.proofs.before.Before.standing.Given as goal

abbrev pub invariant-loop-cube : goal.invariant-loop-cube
invariant-loop-cube l = All (MayFail l.self) (take l.cube-index l.ways)

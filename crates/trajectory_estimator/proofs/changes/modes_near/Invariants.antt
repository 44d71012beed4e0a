use Rattle.std.proofs.Common.{take}
use Rattle.trajectory_estimator.specs.Changes.{AreNear}
use Rattle.trajectory_estimator.proofs.changes.modes_near.Given as goal

abbrev pub invariant-loop-component : goal.invariant-loop-component
invariant-loop-component l = AreNear (take l.component-index l.components) l.mode l.modes

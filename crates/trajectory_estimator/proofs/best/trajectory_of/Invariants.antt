use Rattle.std.proofs.Common.{◌≡◌, map}
use Rattle.cca_base.specs.Relations.{numbers_below}
use Rattle.trajectory_estimator.specs.Asked.{modes_of}
use Rattle.trajectory_estimator.specs.Windows.{state_at}
use Rattle.trajectory_estimator.proofs.best.trajectory_of.Given as goal

abbrev pub invariant-loop-at : goal.invariant-loop-at
invariant-loop-at l = modes_of l.states ≡ map (state_at l.query l.chosen.values) (numbers_below l.at)

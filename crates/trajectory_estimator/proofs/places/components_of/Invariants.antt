use Rattle.std.proofs.Common.{◌≡◌, length}
use Rattle.cca_base.specs.Relations.{numbers_below}
use Rattle.trajectory_estimator.specs.Windows.{rows_of}
use Rattle.trajectory_estimator.proofs.places.components_of.Given as goal

abbrev pub invariant-loop : goal.invariant-loop
invariant-loop l = l.components ≡ rows_of l.counter (numbers_below (length l.query.model.components))

use Rattle.std.proofs.Common.{◌≡◌, ◌++◌}
use Rattle.cca_base.specs.Relations.{numbers_below}
use Rattle.trajectory_estimator.proofs.places.push_row.Given as goal

abbrev pub invariant-loop-component : goal.invariant-loop-component
invariant-loop-component l = l.components ≡ l.initial.components ++ numbers_below l.component

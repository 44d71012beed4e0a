use Rattle.std.proofs.Common.{◌≤◌, All, length, take}
use Rattle.cca_base.specs.declared.limits.TheConstants.{MAX_CHOICES}
use Rattle.trajectory_estimator.proofs.changes.most_modes.Given as goal

abbrev pub invariant-loop-component : goal.invariant-loop-component
invariant-loop-component l = record {
  few : l.most ≤ MAX_CHOICES;
  most : All (λ x. length x.modes ≤ l.most) (take l.component-index l.components);
}

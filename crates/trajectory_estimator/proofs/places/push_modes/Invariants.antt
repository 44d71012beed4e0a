use Rattle.std.proofs.Common.{◌≡◌, ◌++◌, ◌^◌, ◌-◌, length, map, take}
use Rattle.trajectory_estimator.proofs.places.push_modes.Given as goal

abbrev pub invariant-loop-component : goal.invariant-loop-component
invariant-loop-component l = l.masks ≡ l.initial.masks ++ map (λ x. 2 ^ length x.modes - 1) (take l.component-index l.components)

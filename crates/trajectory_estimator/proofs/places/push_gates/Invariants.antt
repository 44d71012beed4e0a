use Rattle.std.proofs.Common.{◌≡◌, ◌++◌, ◌^◌, ◌-◌, map}
use Rattle.cca_base.specs.Relations.{numbers_below}
use Rattle.trajectory_estimator.proofs.places.push_gates.Given as goal

abbrev pub invariant-loop : goal.invariant-loop
invariant-loop l = l.masks ≡ l.initial.masks ++ map (λ c. 2 ^ 3 - 1) (numbers_below l.counter)

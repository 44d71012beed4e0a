use Rattle.std.proofs.Common.{◌≡◌, ◌++◌, ◌^◌, ◌-◌, length, map}
use Rattle.cca_base.specs.Relations.{numbers_below}
use Rattle.trajectory_estimator.specs.Windows.{rows_of}
use Rattle.trajectory_estimator.proofs.places.first_masks.Given as goal

abbrev pub invariant-loop : goal.invariant-loop
invariant-loop l = l.masks ≡ rows_of l.counter (map (λ x. 2 ^ length x.modes - 1) l.components)

abbrev pub invariant-loop-2 : goal.invariant-loop-2
invariant-loop-2 l = l.masks ≡ rows_of l.records (map (λ x. 2 ^ length x.modes - 1) l.components) ++ rows_of l.counter (map (λ c. 2 ^ 3 - 1) (numbers_below (length l.components)))

use Rattle.std.proofs.Common.{◌≡◌, ◌≤◌, filter, length, not, take}
use Rattle.trajectory_estimator.specs.Clashes.{AreMoved, stands_still}
use Rattle.trajectory_estimator.proofs.shown.write_cut.Given as goal

abbrev pub invariant-loop-pair : goal.invariant-loop-pair
invariant-loop-pair l = record {
  cut : AreMoved l.paths.query.now l.at (filter (λ p. not (stands_still l.paths p.item)) (take l.pair-index l.cube)) l.cut.items;
  few : length l.cut.items ≤ l.pair-index;
  room : l.cut.room ≡ l.initial.cut.room;
}

use Rattle.std.proofs.Common.{◌≡◌, ◌≤◌, length}
use Rattle.trajectory_estimator.specs.Clashes.{is_asked, mode_asked}
use Rattle.trajectory_estimator.proofs.GroupPairs.{AreBefore}
use Rattle.trajectory_estimator.proofs.shown.write_pairs.Given as goal

abbrev pub invariant-loop-c : goal.invariant-loop-c
invariant-loop-c l = record {
  pairs : AreBefore (is_asked l.paths) (mode_asked l.paths l.at) l.c l.pairs.items;
  few : length l.pairs.items ≤ l.c;
  room : l.pairs.room ≡ l.initial.pairs.room;
}

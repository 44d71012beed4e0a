use Rattle.std.proofs.Common.{◌≡◌, ◌≤◌, length}
use Rattle.mode_estimator.specs.Ticks.{is_asked, own_mode}
use Rattle.mode_estimator.proofs.ComponentPairs.{AreBefore}
use Rattle.mode_estimator.proofs.tick.write_pairs.Given as goal

abbrev pub invariant-loop-c : goal.invariant-loop-c
invariant-loop-c l = record {
  before : AreBefore (is_asked l.rows.rows l.names l.group) (own_mode l.rows.rows l.modes) l.c l.pairs.items;
  few : length l.pairs.items ≤ l.c;
  room : l.pairs.room ≡ l.fn.pairs.room;
}

use Rattle.std.proofs.Common.{◌≡◌, ◌≤◌, not, filter, length, take}
use Rattle.mode_estimator.specs.Ticks.{is_fixed}
use Rattle.mode_estimator.proofs.tick.write_free.Given as goal

abbrev pub invariant-loop-pair : goal.invariant-loop-pair
invariant-loop-pair l = record {
  items : l.part.items ≡ filter (λ p. not (is_fixed l.rows.rows p.item)) (take l.pair-index l.pairs);
  few : length l.part.items ≤ l.pair-index;
  room : l.part.room ≡ l.fn.part.room;
}

use Rattle.std.proofs.Common.{◌≡◌, ◌<◌, ◌≤◌, ℕ, false, slice_index_or}
use Rattle.cca_base.specs.Sets.{has}
use Rattle.cca_base.specs.declared.choice.Choice.{Choice}
use Rattle.mode_estimator.proofs.tick.next_in.Given as goal

abbrev pub invariant-loop-at : goal.invariant-loop-at
invariant-loop-at l = record {
  from : l.from ≤ l.at;
  none : (k : ℕ) (d : Choice) → l.from ≤ k → k < l.at → has l.mask (slice_index_or l.row k d).mode ≡ false;
}

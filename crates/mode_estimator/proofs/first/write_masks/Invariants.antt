use Rattle.std.proofs.Common.{◌≡◌, ◌<◌, ℕ, true, [], length, slice_index, slice_index_or, Contains}
use Rattle.cca_base.specs.Sets.{has}
use Rattle.cca_base.specs.declared.choice.Choice.{Choice}
use Rattle.cca_base.specs.declared.limits.TheConstants.{MAX_CHOICES}
use Rattle.mode_estimator.proofs.first.write_masks.Given as goal

abbrev pub invariant-loop-at : goal.invariant-loop-at
invariant-loop-at l = record {
  long : length l.masks ≡ length l.rows.rows;
  each : (c : ℕ) (x : Choice) → c < l.at → Contains (slice_index_or l.rows.rows c []) x → x.mode < MAX_CHOICES → has (slice_index l.masks c) x.mode ≡ true;
}

use Rattle.std.proofs.Common.{◌≡◌, ◌<◌, ℕ, length, slice_index}
use Rattle.mode_estimator.proofs.first.copy_modes.Given as goal

abbrev pub invariant-loop-at : goal.invariant-loop-at
invariant-loop-at l = record {
  long : length l.to ≡ length l.from;
  same : (k : ℕ) → k < l.at → slice_index l.to k ≡ slice_index l.from k;
}

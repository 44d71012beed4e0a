use Rattle.std.proofs.Common.{◌≡◌, ℕ, ◌<◌, length, slice_index}
use Rattle.clash_analysis.proofs.lower.clear.Given as goal

abbrev pub invariant-loop-v : goal.invariant-loop-v
invariant-loop-v l = record {
  long : length l.learn ≡ length l.fn.learn;
  none : (k : ℕ) → k < l.v → slice_index l.learn k ≡ 0;
}

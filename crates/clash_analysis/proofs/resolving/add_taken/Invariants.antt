use Rattle.std.proofs.Common.{◌≡◌, ℕ, ◌<◌, ◌≤◌, ◌||◌, ◌&&◌, not, length, slice_index}
use Rattle.cca_base.specs.Sets.{has}
use Rattle.clash_analysis.specs.Subjects.{is_in}
use Rattle.clash_analysis.proofs.resolving.add_taken.Given as goal

abbrev pub invariant-loop-v : goal.invariant-loop-v
invariant-loop-v l = record {
  long : length l.learn ≡ length l.fn.learn;
  done : (k a : ℕ) → k < l.v → has (slice_index l.learn k) a ≡ (has (slice_index l.fn.learn k) a || (is_in l.set k && (has (slice_index l.start k) a && not (has (slice_index l.dom k) a))));
  still : (k : ℕ) → l.v ≤ k → slice_index l.learn k ≡ slice_index l.fn.learn k;
}

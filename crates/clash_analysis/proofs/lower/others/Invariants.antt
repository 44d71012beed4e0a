use Rattle.std.proofs.Common.{◌≡◌, ◌≢◌, ℕ, ◌<◌, true, length, slice_index}
use Rattle.cca_base.specs.Sets.{has}
use Rattle.clash_analysis.specs.Subjects.{is_in}
use Rattle.clash_analysis.proofs.lower.others.Given as goal

abbrev pub invariant-loop-v : goal.invariant-loop-v
invariant-loop-v l = record {
  all : (k a : ℕ) → k < l.v → k ≢ l.u → has (slice_index l.learn k) a ≡ true → is_in l.set k ≡ true;
  inside : (k : ℕ) → is_in l.set k ≡ true → k < length l.learn;
}

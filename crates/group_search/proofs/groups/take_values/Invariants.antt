use Rattle.std.proofs.Common.{◌≡◌, ◌<◌, ◌≤◌, ℕ, cond, length, slice_index}
use Rattle.group_search.specs.Questions.{in_group}
use Rattle.group_search.proofs.groups.take_values.Given as goal

abbrev pub invariant-loop-place : goal.invariant-loop-place
invariant-loop-place l = record {
  long : length l.values ≡ length l.initial.values;
  taken : (p : ℕ) → p < l.place → slice_index l.values p
      ≡ cond (in_group l.names l.group (slice_index l.components p)) (slice_index l.found p) (slice_index l.initial.values p);
  kept : (p : ℕ) → l.place ≤ p → slice_index l.values p ≡ slice_index l.initial.values p;
}

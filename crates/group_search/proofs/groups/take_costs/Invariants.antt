use Rattle.std.proofs.Common.{◌≡◌, ◌<◌, ◌≤◌, ℕ, cond, length, slice_index}
use Rattle.group_search.specs.Questions.{in_group}
use Rattle.group_search.proofs.groups.take_costs.Given as goal

abbrev pub invariant-loop-c : goal.invariant-loop-c
invariant-loop-c l = record {
  long : length l.costs ≡ length l.initial.costs;
  taken : (k : ℕ) → k < l.c → slice_index l.costs k
      ≡ cond (in_group l.names l.group k) (slice_index l.found k) (slice_index l.initial.costs k);
  kept : (k : ℕ) → l.c ≤ k → slice_index l.costs k ≡ slice_index l.initial.costs k;
}

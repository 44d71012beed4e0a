use Rattle.std.proofs.Common.{◌≡◌, ◌<◌, ◌≤◌, ℕ, true, false, Some, slice_index_or}
use Rattle.group_search.specs.Questions.{cost_in, in_group}
use Rattle.group_search.proofs.staying.least_cost.Given as goal

abbrev pub invariant-loop-c : goal.invariant-loop-c
invariant-loop-c l = record {
  cost : l.cost ≤ cost_in l.c (in_group l.names (Some l.group)) l.boxed.columns.costs;
  stand : (d : ℕ) → d < l.c → in_group l.names (Some l.group) d ≡ true → slice_index_or l.boxed.stands d false ≡ true;
}

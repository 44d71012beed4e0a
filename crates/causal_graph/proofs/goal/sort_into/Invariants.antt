use Rattle.std.proofs.Common.{◌≡◌, ◌≤◌, length}
use Rattle.cca_base.proofs.SortedGoals.{IsSorting}
use Rattle.causal_graph.proofs.goal.sort_into.Given as goal

abbrev pub invariant-loop-i : goal.invariant-loop-i
invariant-loop-i l = record {
  sorting : IsSorting l.compiled.order l.pairs l.sorted.items l.i;
  few : length l.sorted.items ≤ l.i;
  room : l.sorted.room ≡ l.fn.sorted.room;
}

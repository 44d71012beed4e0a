use Rattle.std.proofs.Common.{◌≡◌, ◌≤◌, ◌*◌}
use Rattle.group_search.specs.Questions.{cost_in, in_group}
use Rattle.group_search.specs.declared.columns.TheConstants.{MAX_PATH}
use Rattle.group_search.proofs.groups.group_cost.Given as goal

abbrev pub invariant-loop-c : goal.invariant-loop-c
invariant-loop-c l = record {
  cost : l.cost ≡ cost_in l.c (in_group l.names l.group) l.costs;
  cheap : l.cost ≤ l.c * MAX_PATH;
}

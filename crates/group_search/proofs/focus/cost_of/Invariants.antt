use Rattle.std.proofs.Common.{◌≡◌, take, slice_index}
use Rattle.std.specs.List.{sum_by}
use Rattle.group_search.proofs.focus.cost_of.Given as goal

abbrev pub invariant-loop-c : goal.invariant-loop-c
invariant-loop-c l = l.cost ≡ sum_by (λ x. slice_index l.costs x) (take l.c-index l.members)

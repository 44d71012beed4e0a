use Rattle.std.proofs.Common.{◌≡◌, All, true, false, take, slice_index_or}
use Rattle.group_search.proofs.judge.all_stand.Given as goal

abbrev pub invariant-loop-c : goal.invariant-loop-c
invariant-loop-c l = All (λ x. slice_index_or l.stands x false ≡ true) (take l.c-index l.members)

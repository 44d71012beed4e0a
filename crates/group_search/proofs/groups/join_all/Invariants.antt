use Rattle.std.proofs.Common.{◌≡◌, ◌++◌, map, take, drop}
use Rattle.group_search.proofs.groups.join_all.Given as goal

abbrev pub invariant-loop-at : goal.invariant-loop-at
invariant-loop-at l = l.names ≡ map (λ n. 0) (take l.at l.initial.names) ++ drop l.at l.initial.names

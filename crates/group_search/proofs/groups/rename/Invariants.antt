use Rattle.std.proofs.Common.{◌≡◌, ◌++◌, map, take, drop}
use Rattle.group_search.proofs.JoinLaws.{renamed}
use Rattle.group_search.proofs.groups.rename.Given as goal

abbrev pub invariant-loop-at : goal.invariant-loop-at
invariant-loop-at l = l.names ≡ map (renamed l.from l.to) (take l.at l.initial.names) ++ drop l.at l.initial.names

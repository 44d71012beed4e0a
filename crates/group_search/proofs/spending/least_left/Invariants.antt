use Rattle.std.proofs.Common.{All, take}
use Rattle.group_search.specs.Bounds.{LeavesAt}
use Rattle.group_search.specs.Questions.{in_group}
use Rattle.group_search.proofs.spending.least_left.Given as goal

abbrev pub invariant-loop-pair : goal.invariant-loop-pair
invariant-loop-pair g l = All (LeavesAt (g.P.Paths.means.question l.problem) (in_group l.names l.fn.group) l.boxed l.spent l.least) (take l.pair-index l.pairs)

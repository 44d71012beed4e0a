use Rattle.std.proofs.Common.{All, take}
use Rattle.group_search.specs.Bounds.{IsHeld}
use Rattle.group_search.specs.Questions.{in_group}
use Rattle.group_search.proofs.spending.is_held.Given as goal

abbrev pub invariant-loop-pair : goal.invariant-loop-pair
invariant-loop-pair g l = All (IsHeld (g.P.Paths.means.question l.problem) (in_group l.names l.fn.group) l.boxed) (take l.pair-index l.pairs)

use Rattle.std.proofs.Common.{take}
use Rattle.group_search.specs.Questions.{in_group}
use Rattle.group_search.proofs.ChooseLaws.{IsBestOf}
use Rattle.group_search.proofs.choose.choice_in.Given as goal

abbrev pub invariant-loop-pair : goal.invariant-loop-pair
invariant-loop-pair g l = IsBestOf (g.P.Paths.means.question l.problem) (in_group l.names l.group) l.boxed.masks l.limit (take l.pair-index l.cut) l.best

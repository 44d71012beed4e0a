use Rattle.std.proofs.Common.{IfSome}
use Rattle.group_search.specs.Bounds.{IsOpen}
use Rattle.group_search.specs.Questions.{in_group}
use Rattle.group_search.proofs.choose.choose.Given as goal

abbrev pub invariant-loop-at : goal.invariant-loop-at
invariant-loop-at g l = IfSome l.best (λ x. IsOpen (g.P.Paths.means.question l.problem) (in_group l.work.names l.group) l.work.boxed.masks x.pair)

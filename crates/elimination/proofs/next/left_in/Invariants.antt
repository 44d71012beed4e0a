use Rattle.std.proofs.Common.{All, take}
use Rattle.elimination.specs.Projection.{IsDone}
use Rattle.elimination.proofs.next.left_in.Given as goal

abbrev pub invariant-loop-literal : goal.invariant-loop-literal
invariant-loop-literal l = All (λ literal. IsDone l.keep l.marks literal.subject) (take l.literal-index l.literal-items)

use Rattle.elimination.specs.Projection.{IsLeft}
use Rattle.elimination.proofs.next.cheapest.Given as goal

abbrev pub invariant-loop-at : goal.invariant-loop-at
invariant-loop-at l = IsLeft l.sizes l.keep l.marks l.best

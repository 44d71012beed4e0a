use Rattle.reversibility.specs.Homes.{IsAround}
use Rattle.reversibility.proofs.around.around.Given as goal

abbrev pub invariant-loop-x : goal.invariant-loop-x
invariant-loop-x l = IsAround l.closed l.home l.x l.all

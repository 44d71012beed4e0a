use Rattle.reversibility.specs.Levels.{MoveLeads}
use Rattle.reversibility.proofs.around.leads.Given as goal

abbrev pub invariant-loop-k : goal.invariant-loop-k
invariant-loop-k l = MoveLeads l.model l.numbers l.k l.from l.to → ⊥

use Rattle.cca_base.specs.Model.{RepairChain, IsInChain}
use Rattle.cca_base.proofs.model.Model.is_in_chain.Given as goal

-- so many repairs lead to where the walk stands, and the other mode stands in the rest of the chain, if it stands in the chain
abbrev pub invariant-loop-taken : goal.invariant-loop-taken
invariant-loop-taken l = RepairChain l.self.moves l.c l.mode l.at l.taken × (IsInChain l.self.moves l.c l.mode l.other → IsInChain l.self.moves l.c l.at l.other)

use Rattle.std.proofs.Common.{suc}
use Rattle.cca_base.specs.Model.{RepairChain}
use Rattle.cca_base.proofs.model.Model.mended.Given as goal

-- so many repairs lead to the mode
abbrev pub invariant-loop-taken : goal.invariant-loop-taken
invariant-loop-taken l = RepairChain l.self.moves l.c l.m l.mode (suc l.taken)

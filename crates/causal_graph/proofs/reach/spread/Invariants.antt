use Rattle.causal_graph.proofs.ReachedRows.{IsSpreadTo}
use Rattle.causal_graph.proofs.reach.spread.Given as goal

abbrev pub invariant-loop-c : goal.invariant-loop-c
invariant-loop-c l = IsSpreadTo l.needs l.initial.flags l.flags l.fresh l.c

use Rattle.causal_graph.proofs.ShownCycle.{AreSearched}
use Rattle.causal_graph.proofs.cycle.shown_cycle.Given as goal

abbrev pub invariant-components : goal.invariant-components
invariant-components l = AreSearched l.needs l.c

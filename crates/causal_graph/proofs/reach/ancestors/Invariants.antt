use Rattle.causal_graph.proofs.ReachedRows.{AreListed}
use Rattle.causal_graph.proofs.reach.ancestors.Given as goal

abbrev pub invariant-loop-u : goal.invariant-loop-u
invariant-loop-u l = AreListed l.flags.items l.list l.u

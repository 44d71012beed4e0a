use Rattle.causal_graph.proofs.ReachedRows.{AreListed}
use Rattle.acceptance.proofs.needs.listed.Given as goal

abbrev pub invariant-loop-u : goal.invariant-loop-u
invariant-loop-u l = AreListed l.marks l.list l.u

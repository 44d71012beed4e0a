use Rattle.causal_graph.proofs.FlagLaws.{IsMarkedTo}
use Rattle.causal_graph.proofs.flags.mark.Given as goal

abbrev pub invariant-loop-u : goal.invariant-loop-u
invariant-loop-u l = IsMarkedTo l.row l.initial.flags l.flags l.fresh l.u-index

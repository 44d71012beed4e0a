use Rattle.cca_base.specs.Flags.{unset}
use Rattle.causal_graph.proofs.ReachedRows.{IsReaching}
use Rattle.causal_graph.proofs.reach.reached.Given as goal

abbrev pub invariant-rounds : goal.invariant-rounds
invariant-rounds l = IsReaching l.needs l.component l.flags.items

abbrev pub decreases-rounds : goal.decreases-rounds
decreases-rounds l = unset l.flags.items

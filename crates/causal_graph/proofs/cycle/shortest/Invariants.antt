use Rattle.causal_graph.proofs.ShownCycle.{IsStepping}
use Rattle.causal_graph.proofs.cycle.shortest.Given as goal

abbrev pub invariant-steps : goal.invariant-steps
invariant-steps l = IsStepping l.needs l.target l.distances l.cycle l.at l.left

abbrev pub decreases-steps : goal.decreases-steps
decreases-steps l = l.left

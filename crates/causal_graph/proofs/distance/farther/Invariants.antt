use Rattle.causal_graph.proofs.DistanceRound.{IsFartherTo}
use Rattle.causal_graph.proofs.distance.farther.Given as goal

abbrev pub invariant-loop-v : goal.invariant-loop-v
invariant-loop-v l = IsFartherTo l.needs l.level l.initial.distances l.distances l.found l.v

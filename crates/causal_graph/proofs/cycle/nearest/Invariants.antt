use Rattle.std.proofs.Common.{take}
use Rattle.causal_graph.proofs.NearestRow.{IsNearestOf}
use Rattle.causal_graph.proofs.cycle.nearest.Given as goal

abbrev pub invariant-loop-u : goal.invariant-loop-u
invariant-loop-u l = IsNearestOf (take l.u-index l.row) l.distances l.distance l.least

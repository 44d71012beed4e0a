use Rattle.std.proofs.Common.{take}
use Rattle.causal_graph.specs.Search.{AreDirect}
use Rattle.causal_graph.proofs.distance.direct.Given as goal

abbrev pub invariant-loop-row : goal.invariant-loop-row
invariant-loop-row l = AreDirect (take l.row-index l.needs) l.target l.distances.items

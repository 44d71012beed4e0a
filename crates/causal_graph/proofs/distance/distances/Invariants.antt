use Rattle.std.proofs.Common.{◌+◌, ◌<◌, ◌≤◌, length}
use Rattle.causal_graph.specs.Search.{unreached}
use Rattle.causal_graph.proofs.DistanceLevels.{IsLevelled}
use Rattle.causal_graph.proofs.distance.distances.Given as goal

abbrev pub invariant-levels : goal.invariant-levels
invariant-levels l = record {
  levelled : IsLevelled l.needs l.target l.distances.items l.level;
  positive : 0 < l.level;
  low : l.level + unreached l.distances.items ≤ length l.needs + 1;
}

abbrev pub decreases-levels : goal.decreases-levels
decreases-levels l = unreached l.distances.items

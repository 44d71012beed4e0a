use Rattle.std.proofs.Common.{take}
use Rattle.cca_base.specs.Cube.{Lacks}
use Rattle.causal_graph.proofs.goal.pair_of.Given as goal

abbrev pub invariant-loop-pair : goal.invariant-loop-pair
invariant-loop-pair l = Lacks l.component (take l.pair-index l.pairs)

use Rattle.std.proofs.Common.{take}
use Rattle.causal_graph.specs.Search.{Marks}
use Rattle.acceptance.specs.Marks.{components_of}
use Rattle.acceptance.proofs.needs.mark_cube.Given as goal

abbrev pub invariant-loop-pair : goal.invariant-loop-pair
invariant-loop-pair l = Marks (components_of (take l.pair-index l.pairs)) l.initial.marks l.marks

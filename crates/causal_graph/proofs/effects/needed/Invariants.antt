use Rattle.std.proofs.Common.{take}
use Rattle.causal_graph.specs.Search.{AreNeeded}
use Rattle.causal_graph.proofs.effects.needed.Given as goal

abbrev pub invariant-loop-c : goal.invariant-loop-c
invariant-loop-c l = AreNeeded l.needs (take l.c-index l.remaining) l.flags.items

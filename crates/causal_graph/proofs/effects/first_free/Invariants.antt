use Rattle.std.proofs.Common.{ℕ, ◌<◌, slice_index}
use Rattle.cca_base.specs.Flags.{IsSet}
use Rattle.causal_graph.proofs.effects.first_free.Given as goal

abbrev pub invariant-loop-i : goal.invariant-loop-i
invariant-loop-i l = (k : ℕ) → k < l.i → IsSet l.needed (slice_index l.remaining k)

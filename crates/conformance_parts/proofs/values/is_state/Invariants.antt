use Rattle.std.proofs.Common.{ℕ, ◌<◌, slice_index}
use Rattle.cca_base.specs.Model.{HasMode}
use Rattle.conformance_parts.proofs.values.is_state.Given as goal

abbrev pub invariant-loop-c : goal.invariant-loop-c
invariant-loop-c l = (d : ℕ) → d < l.c → HasMode l.model d (slice_index l.modes d)

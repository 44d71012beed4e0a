use Rattle.std.proofs.Common.{◌≡◌, ℕ, ◌<◌, slice_index}
use Rattle.std.specs.Prelude.{nat_lt}
use Rattle.cca_base.specs.Sets.{has}
use Rattle.consistency.proofs.base.fill.Given as goal

abbrev pub invariant-loop-at : goal.invariant-loop-at
invariant-loop-at l = (d v : ℕ) → d < l.at → has (slice_index l.sets d) v ≡ nat_lt v (slice_index l.sizes d)

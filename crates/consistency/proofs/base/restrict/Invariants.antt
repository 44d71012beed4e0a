use Rattle.std.proofs.Common.{◌≡◌, ℕ, ◌<◌, ◌&&◌, length, take, slice_index}
use Rattle.cca_base.specs.Sets.{has}
use Rattle.consistency.specs.Base.{allows}
use Rattle.consistency.proofs.base.restrict.Given as goal

abbrev pub invariant-loop-pair : goal.invariant-loop-pair
invariant-loop-pair l = (d v : ℕ) → d < length l.fn.sets → has (slice_index l.sets d) v ≡ (has (slice_index l.fn.sets d) v && allows l.first (take l.pair-index l.pairs) d v)

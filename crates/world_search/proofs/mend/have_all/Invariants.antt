use Rattle.std.proofs.Common.{◌≡◌, ℕ, ◌<◌, slice_index, slice_index_or}
use Rattle.cca_base.specs.declared.cube.Pair.{Pair}
use Rattle.world_search.proofs.mend.have_all.Given as goal

abbrev pub invariant-loop-pair : goal.invariant-loop-pair
invariant-loop-pair l = (k : ℕ) (d : Pair) → k < l.pair-index → slice_index l.values (slice_index_or l.pairs k d).item ≡ (slice_index_or l.pairs k d).value

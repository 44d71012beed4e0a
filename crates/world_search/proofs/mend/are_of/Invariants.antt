use Rattle.std.proofs.Common.{◌≡◌, ℕ, ◌<◌, true}
use Rattle.clash_analysis.specs.Trails.{is_within}
use Rattle.world_search.proofs.mend.are_of.Given as goal

abbrev pub invariant-loop-v : goal.invariant-loop-v
invariant-loop-v l = (v : ℕ) → v < l.v → is_within l.sets l.values v ≡ true

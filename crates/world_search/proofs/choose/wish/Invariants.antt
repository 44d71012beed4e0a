use Rattle.std.proofs.Common.{◌≡◌, ℕ, ◌<◌, true, length}
use Rattle.clash_analysis.specs.Trails.{is_within}
use Rattle.world_search.proofs.choose.wish.Given as goal

abbrev pub invariant-loop-v : goal.invariant-loop-v
invariant-loop-v l = record {
  long : length l.trial ≡ length l.fn.trial;
  all : (v : ℕ) → v < l.v → is_within l.dom l.trial v ≡ true;
}

use Rattle.std.proofs.Common.{◌≡◌, ℕ, ◌<◌, false, length, slice_index}
use Rattle.world_search.proofs.seen.put_words.Given as goal

abbrev pub invariant-loop-v : goal.invariant-loop-v
invariant-loop-v l = record {
  long : length l.words ≡ length l.sets;
  done : (k : ℕ) → k < l.v → slice_index l.words k ≡ slice_index l.sets k;
  same : l.are_others ≡ false → l.words ≡ l.fn.words;
}

use Rattle.std.proofs.Common.{◌≡◌, ◌≤◌, ℕ, List, slice_index}
use Rattle.world_search.specs.Spaces.{IsSpace, base_in}
use Rattle.world_search.specs.Worlds.{HasAll, IsSolution}
use Rattle.consistency.proofs.first.put_lowest.Given as goal

abbrev pub invariant-loop-lower : goal.invariant-loop-lower
invariant-loop-lower l = record {
  space : IsSpace l.problem l.space;
  base : base_in l.space ≡ base_in l.fn.space;
  pairs : l.pairs ≡ l.fn.pairs;
  world : l.world ≡ l.fn.world;
  lowest : (ys : List ℕ) → IsSolution l.problem.clauses (base_in l.fn.space) ys → HasAll l.fn.pairs ys → l.lower ≤ slice_index ys l.subject;
}

use Rattle.std.proofs.Common.{◌≡◌, ◌<◌, ℕ, List, slice_index}
use Rattle.world_search.specs.Spaces.{IsSpace, base_in}
use Rattle.world_search.specs.Worlds.{IsSolution}
use Rattle.consistency.proofs.backbone.is_other_found.Given as goal

abbrev pub invariant-loop-other : goal.invariant-loop-other
invariant-loop-other l = record {
  space : IsSpace l.problem l.space;
  base : base_in l.space ≡ base_in l.fn.space;
  none : (xs : List ℕ) → IsSolution l.problem.clauses (base_in l.fn.space) xs → slice_index xs l.subject < l.other → slice_index xs l.subject ≡ l.value;
}

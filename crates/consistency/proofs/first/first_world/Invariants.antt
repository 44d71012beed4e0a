use Rattle.std.proofs.Common.{◌≡◌, length}
use Rattle.world_search.specs.Assumed.{AreAsked}
use Rattle.world_search.specs.Spaces.{IsSpace, base_in}
use Rattle.consistency.proofs.FirstLaws.{IsFirstTo}
use Rattle.consistency.proofs.first.first_world.Given as goal

abbrev pub invariant-loop-subject : goal.invariant-loop-subject
invariant-loop-subject l = record {
  space : IsSpace l.problem l.space;
  base : base_in l.space ≡ base_in l.fn.space;
  asked : AreAsked (length l.problem.sizes) l.pairs;
  first : IsFirstTo l.problem.clauses (base_in l.fn.space) l.subject l.world.items l.pairs;
}

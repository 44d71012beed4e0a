use Rattle.std.proofs.Common.{◌≡◌, ◌≤◌, length}
use Rattle.world_search.specs.Spaces.{IsSpace, base_in}
use Rattle.consistency.specs.Search.{AreVaried}
use Rattle.consistency.proofs.BackboneLaws.{IsBackboneTo}
use Rattle.consistency.proofs.backbone.backbone.Given as goal

abbrev pub invariant-loop-item : goal.invariant-loop-item
invariant-loop-item l = record {
  space : IsSpace l.problem l.space;
  base : base_in l.space ≡ base_in l.fn.space;
  done : IsBackboneTo l.problem.clauses (base_in l.fn.space) l.components l.vars l.item l.pairs.items;
  varied : AreVaried l.problem.clauses (base_in l.fn.space) l.varied;
  few : length l.pairs.items ≤ l.item;
  room : l.pairs.room ≡ l.fn.pairs.room;
}

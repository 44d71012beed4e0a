use Rattle.std.proofs.Common.{◌≡◌, false, length}
use Rattle.world_search.specs.Followed.{IsFollowed}
use Rattle.world_search.specs.Words.{AreMetIn}
use Rattle.world_search.proofs.propagate.visit_named.Given as goal

abbrev pub invariant-loop-literal : goal.invariant-loop-literal
invariant-loop-literal l = record {
  followed : IsFollowed (AreMetIn l.rules.clauses.items) l.fn.work l.work false;
  long : length l.work.dom.items ≡ length l.fn.work.dom.items;
}

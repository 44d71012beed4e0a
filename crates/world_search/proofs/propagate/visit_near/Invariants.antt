use Rattle.std.proofs.Common.{◌≡◌, false, length}
use Rattle.world_search.specs.Followed.{IsFollowed}
use Rattle.world_search.specs.Words.{AreMetIn}
use Rattle.world_search.proofs.propagate.visit_near.Given as goal

abbrev pub invariant-loop-clause : goal.invariant-loop-clause
invariant-loop-clause l = record {
  followed : IsFollowed (AreMetIn l.rules.clauses.items) l.fn.work l.work false;
  long : length l.work.dom.items ≡ length l.fn.work.dom.items;
}

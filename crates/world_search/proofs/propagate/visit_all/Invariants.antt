use Rattle.std.proofs.Common.{◌≡◌, false, length}
use Rattle.world_search.specs.Followed.{IsFollowed}
use Rattle.world_search.specs.Words.{AreMetIn}
use Rattle.world_search.proofs.propagate.visit_all.Given as goal

abbrev pub invariant-loop-clause : goal.invariant-loop-clause
invariant-loop-clause l = record {
  followed : IsFollowed (AreMetIn l.clauses) l.fn.work l.work false;
  head : l.work.head ≡ l.fn.work.head;
  long : length l.work.dom.items ≡ length l.fn.work.dom.items;
}

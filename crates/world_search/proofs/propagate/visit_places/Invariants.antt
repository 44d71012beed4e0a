use Rattle.std.proofs.Common.{◌≡◌, false, length}
use Rattle.world_search.specs.Followed.{IsFollowed}
use Rattle.world_search.specs.Words.{AreMetIn}
use Rattle.world_search.proofs.propagate.visit_places.Given as goal

abbrev pub invariant-loop-place : goal.invariant-loop-place
invariant-loop-place l = record {
  followed : IsFollowed (AreMetIn l.clauses) l.fn.work l.work false;
  head : l.work.head ≡ l.fn.work.head;
  long : length l.work.dom.items ≡ length l.fn.work.dom.items;
}

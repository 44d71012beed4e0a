use Rattle.std.proofs.Common.{◌≡◌, ◌-◌, false, length}
use Rattle.world_search.specs.Followed.{IsFollowed}
use Rattle.world_search.specs.Words.{AreMetIn}
use Rattle.world_search.proofs.propagate.follow_trail.Given as goal

abbrev pub invariant-following : goal.invariant-following
invariant-following l = record {
  followed : IsFollowed (AreMetIn l.rules.clauses.items) l.fn.work l.work false;
  long : length l.work.dom.items ≡ length l.fn.work.dom.items;
}

abbrev pub decreases-following : goal.decreases-following
decreases-following l = length l.fn.work.trail.items - l.work.head

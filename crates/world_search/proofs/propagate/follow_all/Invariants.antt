use Rattle.std.proofs.Common.{◌≡◌, ◌++◌, ◌-◌, false, length}
use Rattle.world_search.specs.Followed.{IsFollowed}
use Rattle.world_search.specs.Asked.{AreAllMetIn}
use Rattle.world_search.proofs.propagate.follow_all.Given as goal

abbrev pub invariant-again : goal.invariant-again
invariant-again l = record {
  followed : IsFollowed (AreAllMetIn (l.rules.clauses.items ++ l.beside) l.slots) l.fn.work l.work false;
  long : length l.work.dom.items ≡ length l.fn.work.dom.items;
  notes : length l.notes ≡ length l.fn.notes;
}

abbrev pub decreases-again : goal.decreases-again
decreases-again l = length l.fn.work.trail.items - l.work.long

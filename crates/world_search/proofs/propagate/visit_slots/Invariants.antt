use Rattle.std.proofs.Common.{◌≡◌, false, length}
use Rattle.world_search.specs.Followed.{IsFollowed}
use Rattle.world_search.specs.Stores.{AreSlotsMetIn}
use Rattle.world_search.proofs.propagate.visit_slots.Given as goal

abbrev pub invariant-loop-k : goal.invariant-loop-k
invariant-loop-k l = record {
  followed : IsFollowed (AreSlotsMetIn l.slots) l.fn.work l.work false;
  head : l.work.head ≡ l.fn.work.head;
  long : length l.work.dom.items ≡ length l.fn.work.dom.items;
  notes : length l.notes ≡ length l.fn.notes;
}

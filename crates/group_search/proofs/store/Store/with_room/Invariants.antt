use Rattle.std.proofs.Common.{◌≡◌, length}
use Rattle.group_search.proofs.store.Store.with_room.Given as goal

abbrev pub invariant-loop : goal.invariant-loop
invariant-loop l = length l.slots.items ≡ l.counter

use Rattle.std.proofs.Common.{◌≡◌, ◌⊎◌, ◌+◌, ℕ, length}
use Rattle.std.specs.Prelude.{Contains}
use Rattle.group_search.proofs.store.insert.Given as goal

abbrev pub invariant-loop-behind : goal.invariant-loop-behind
invariant-loop-behind l = record {
  long : length l.order.items ≡ length l.fn.order.items + 1;
  room : l.order.room ≡ l.fn.order.room;
  members : (x : ℕ) → Contains l.order.items x → Contains l.fn.order.items x ⊎ (x ≡ l.slot);
}

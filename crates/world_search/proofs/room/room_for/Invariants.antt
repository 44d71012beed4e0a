use Rattle.std.proofs.Common.{◌≡◌, ◌*◌, ◌≤◌, take}
use Rattle.std.specs.Prelude.{◌-◌, sum_by}
use Rattle.world_search.proofs.room.room_for.Given as goal

abbrev pub invariant-loop-size : goal.invariant-loop-size
invariant-loop-size l = record {
  entries : l.entries ≡ sum_by (λ n. n - 1) (take l.size-index l.size-items);
  few : l.entries ≤ 63 * l.size-index;
}

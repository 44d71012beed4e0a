use Rattle.std.proofs.Common.{◌≡◌, take}
use Rattle.control_program.specs.Goals.{FitsRoom, with_pairs}
use Rattle.control_program.proofs.goals.put_all.Given as goal

abbrev pub invariant-loop-pair : goal.invariant-loop-pair
invariant-loop-pair l = record {
  put : l.goal.items ≡ with_pairs l.fn.goal.items (take l.pair-index l.pairs);
  fits : FitsRoom l.goal;
  room : l.goal.room ≡ l.fn.goal.room;
}

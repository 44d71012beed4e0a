use Rattle.std.proofs.Common.{◌<◌, ◌≤◌, take, All}
use Rattle.control_program.proofs.turn_room.past_pairs.Given as goal

abbrev pub invariant-loop-pair : goal.invariant-loop-pair
invariant-loop-pair l = record {
  past : All (λ p. p.item < l.past) (take l.pair-index l.pairs);
  least : l.least ≤ l.past;
  small : l.past < 65537;
}

use Rattle.std.proofs.Common.{◌≡◌}
use Rattle.reversibility.proofs.Near.{IsExpandedBy}
use Rattle.reversibility.proofs.level.expand.Given as goal

abbrev pub invariant-loop-k : goal.invariant-loop-k
invariant-loop-k l = record { expanded : IsExpandedBy l.model l.numbers l.level l.k l.next.items; room : l.next.room ≡ l.fn.next.room }

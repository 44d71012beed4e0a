use Rattle.std.proofs.Common.{◌≡◌}
use Rattle.reversibility.specs.Levels.{IsSelf}
use Rattle.reversibility.proofs.level.write_first.Given as goal

abbrev pub invariant-loop-a : goal.invariant-loop-a
invariant-loop-a l = record { items : IsSelf l.a l.level.items; room : l.level.room ≡ l.fn.level.room }

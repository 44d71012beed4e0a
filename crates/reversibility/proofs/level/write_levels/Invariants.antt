use Rattle.std.proofs.Common.{◌≡◌, ◌+◌, ◌*◌, length}
use Rattle.reversibility.specs.Levels.{MoveLeads, AreLevels}
use Rattle.reversibility.proofs.level.write_levels.Given as goal

abbrev pub invariant-loop-k : goal.invariant-loop-k
invariant-loop-k l = record {
  levels : AreLevels (MoveLeads l.model l.numbers (length l.numbers)) l.modes l.levels.rows;
  count : length l.levels.rows ≡ l.k + 1;
  used : l.levels.used ≡ (l.k + 1) * l.modes;
  next : l.next.room ≡ l.fn.next.room;
  room : l.levels.room ≡ l.fn.levels.room;
  most : l.levels.most ≡ l.fn.levels.most;
}

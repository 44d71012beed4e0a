use Rattle.std.proofs.Common.{◌≡◌, ◌≤◌, length}
use Rattle.cca_base.specs.MoveIndex.{IsMoveOf}
use Rattle.cca_base.specs.Relations.{AreExactly}
use Rattle.reversibility.specs.ClassParts.{in_row}
use Rattle.reversibility.specs.Levels.{IsAmong, IsOpenNumber}
use Rattle.reversibility.proofs.open.write_open_moves.Given as goal

-- the row is the component's, and exactly the open ones of the numbers at its first places are noted
abbrev pub invariant-loop-number : goal.invariant-loop-number
invariant-loop-number l = record {
  row : AreExactly (IsMoveOf l.compiled.model.moves l.component) l.number-items;
  noted : AreExactly (λ i. IsAmong l.number-items l.number-index i × IsOpenNumber l.compiled.model (in_row l.rows) l.component i) l.numbers.items;
  few : length l.numbers.items ≤ l.number-index;
  room : l.numbers.room ≡ l.fn.numbers.room;
}

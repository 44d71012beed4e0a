use Rattle.std.proofs.Common.{◌≡◌, ◌<◌, ℕ, false, slice_get, slice_index, Some}
use Rattle.cca_base.specs.declared.model.Move.{Move}
use Rattle.cca_base.specs.MoveIndex.{IsMoveBy}
use Rattle.cca_base.specs.Relations.{AreExactly}
use Rattle.model_syntax.proofs.FaultsByIndex.{clashes}
use Rattle.model_syntax.proofs.faults.is_ambiguous.Given as goal

-- the numbers are those of the command, and none of the moves before clashes
abbrev pub invariant-loop-number : goal.invariant-loop-number
invariant-loop-number l = AreExactly (IsMoveBy l.model.moves l.x.command) l.number-items
    × ((n : ℕ) (y : Move) → n < l.number-index → slice_get l.model.moves (slice_index l.number-items n) ≡ Some y → clashes l.x y ≡ false)

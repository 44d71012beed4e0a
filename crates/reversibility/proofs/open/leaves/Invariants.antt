use Rattle.std.proofs.Common.{◌≡◌, ◌<◌, ℕ, slice_get, slice_index, Some}
use Rattle.cca_base.specs.declared.model.Move.{Move}
use Rattle.cca_base.specs.MoveIndex.{IsMoveOf}
use Rattle.cca_base.specs.Relations.{AreExactly}
use Rattle.reach_laws.specs.Classes.{IsOpen}
use Rattle.reversibility.specs.ClassParts.{in_row}
use Rattle.reversibility.proofs.open.leaves.Given as goal

-- the row is the component's, and none of the moves at its first places is an open one that leaves the mode
abbrev pub invariant-loop-number : goal.invariant-loop-number
invariant-loop-number l = AreExactly (IsMoveOf l.compiled.model.moves l.component) l.number-items
    × ((n : ℕ) (move : Move) → n < l.number-index → slice_get l.compiled.model.moves (slice_index l.number-items n) ≡ Some move → move.source ≡ l.mode
    → IsOpen l.compiled.model (in_row l.rows) move → ⊥)

use Rattle.std.proofs.Common.{ℕ, ◌<◌, slice_index}
use Rattle.cca_base.specs.MoveIndex.{IsMoveBy, IsMoveNamed}
use Rattle.cca_base.specs.Relations.{AreExactly}
use Rattle.cca_base.proofs.model.Model.named.Given as goal

-- the numbers are those of the command, and none of those before names its move in the state
abbrev pub invariant-loop-number : goal.invariant-loop-number
invariant-loop-number l = AreExactly (IsMoveBy l.self.moves l.command) l.number-items
    × ((k : ℕ) → k < l.number-index → IsMoveNamed l.self.moves l.state.modes l.command (slice_index l.number-items k) → ⊥)

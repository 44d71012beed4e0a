use Rattle.std.proofs.Common.{◌≡◌, take}
use Rattle.successors.proofs.choice_space.ChoiceRows.copy.Given as goal

abbrev pub invariant-loop-row : goal.invariant-loop-row
invariant-loop-row l = l.rows ≡ take l.row-index l.self.rows

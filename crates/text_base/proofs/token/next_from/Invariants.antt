use Rattle.std.proofs.Common.{length, ◌-◌}
use Rattle.text_base.proofs.Loop.{IsAt}
use Rattle.text_base.proofs.token.next_from.Given as goal

-- the tokens from here on are those from the start on
abbrev pub invariant-blanks : goal.invariant-blanks
invariant-blanks l = IsAt l.line l.from l.at

abbrev pub decreases-blanks : goal.decreases-blanks
decreases-blanks l = length l.line - l.at

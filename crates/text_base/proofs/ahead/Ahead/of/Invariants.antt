use Rattle.std.proofs.Common.{length, ◌-◌}
use Rattle.text_base.proofs.AheadLaws.{IsRead}
use Rattle.text_base.proofs.ahead.Ahead.of.Given as goal

-- some tokens were read before the place
abbrev pub invariant-tokens : goal.invariant-tokens
invariant-tokens l = IsRead l.line l.at

abbrev pub decreases-tokens : goal.decreases-tokens
decreases-tokens l = length l.line - l.at

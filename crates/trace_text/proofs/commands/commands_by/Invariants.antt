use Rattle.std.proofs.Common.{map}
use Rattle.trace_text.proofs.CommandWords.{IsNamedTo}
use Rattle.trace_text.proofs.commands.commands_by.Given as goal

-- the commands so far
abbrev pub invariant-words : goal.invariant-words
invariant-words l = IsNamedTo l.model (map (λ w. w.now) l.words) l.plan l.word-index

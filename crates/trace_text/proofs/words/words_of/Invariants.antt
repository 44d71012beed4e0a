use Rattle.std.proofs.Common.{map}
use Rattle.trace_text.proofs.CutLines.{IsCutTo}
use Rattle.trace_text.proofs.words.words_of.Given as goal

-- the words so far
abbrev pub invariant-loop-i : goal.invariant-loop-i
invariant-loop-i l = IsCutTo l.line (map (λ w. w.now) l.words.items) l.start l.i

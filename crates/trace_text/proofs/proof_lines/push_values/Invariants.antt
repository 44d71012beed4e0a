use Rattle.std.proofs.Common.{drop}
use Rattle.trace_text.specs.LineWords.{value_words}
use Rattle.trace_text.specs.Words.{behind_spaces}
use Rattle.byte_buffer.proofs.Pushing.{Continues}
use Rattle.trace_text.proofs.proof_lines.push_values.Given as goal

-- the values that are left
abbrev pub invariant-loop-i : goal.invariant-loop-i
invariant-loop-i l = Continues (behind_spaces (value_words l.variables l.values)) (behind_spaces (value_words (drop l.i l.variables) (drop l.i l.values))) l.fn.out l.out

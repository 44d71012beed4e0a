use Rattle.std.proofs.Common.{drop}
use Rattle.trace_text.specs.LineWords.{mode_words}
use Rattle.trace_text.specs.Words.{behind_spaces}
use Rattle.byte_buffer.proofs.Pushing.{Continues}
use Rattle.trace_text.proofs.report.push_modes.Given as goal

-- the modes that are left
abbrev pub invariant-loop-i : goal.invariant-loop-i
invariant-loop-i l = Continues (behind_spaces (mode_words l.components l.modes)) (behind_spaces (mode_words (drop l.i l.components) (drop l.i l.modes))) l.fn.out l.out

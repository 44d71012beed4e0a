use Rattle.std.proofs.Common.{drop}
use Rattle.trace_text.specs.Compiled.{ways_lines}
use Rattle.byte_buffer.proofs.Pushing.{Continues}
use Rattle.trace_text.proofs.compiled.push_ways.Given as goal

-- the lines that are left
abbrev pub invariant-loop-i : goal.invariant-loop-i
invariant-loop-i l = Continues (ways_lines l.model l.moves l.ways) (ways_lines l.model (drop l.i l.moves) (drop l.i l.ways)) l.fn.out l.out

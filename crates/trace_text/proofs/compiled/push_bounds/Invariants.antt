use Rattle.std.proofs.Common.{drop}
use Rattle.trace_text.specs.Compiled.{bound_lines}
use Rattle.byte_buffer.proofs.Pushing.{Continues}
use Rattle.trace_text.proofs.compiled.push_bounds.Given as goal

-- the lines that are left
abbrev pub invariant-loop-i : goal.invariant-loop-i
invariant-loop-i l = Continues (bound_lines l.components l.bounds) (bound_lines (drop l.i l.components) (drop l.i l.bounds)) l.fn.out l.out

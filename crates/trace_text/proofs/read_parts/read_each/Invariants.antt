use Rattle.std.proofs.Common.{map}
use Rattle.trace_text.specs.Names.{rows_of}
use Rattle.trace_text.proofs.ChosenRows.{AreReadTo}
use Rattle.trace_text.proofs.read_parts.read_each.Given as goal

-- the choices so far
abbrev pub invariant-loop-i : goal.invariant-loop-i
invariant-loop-i l = AreReadTo (rows_of l.rows) (map (λ w. w.now) l.words) l.chosen l.i

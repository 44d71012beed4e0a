use Rattle.std.proofs.Common.{take}
use Rattle.model_syntax.specs.Reader.{NumbersFit}
use Rattle.trace_text.proofs.commands.places_of.Given as goal

-- the places so far
abbrev pub invariant-loop-i : goal.invariant-loop-i
invariant-loop-i l = NumbersFit l.places (take l.i l.names)

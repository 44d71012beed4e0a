use Rattle.std.proofs.Common.{◌≡◌, ◌++◌, drop}
use Rattle.std.specs.String.{string_bytes}
use Rattle.trial_maker.specs.Documents.{text_of}
use Rattle.trial_maker.specs.Draws.{each}
use Rattle.trial_maker.specs.TransitionLines.{move_lines}
use Rattle.trial_maker.proofs.transitions.push_moves.Given as goal

-- with what is left, the text is whole, and all is drawn
abbrev pub invariant-loop-link : goal.invariant-loop-link
invariant-loop-link l =
    (string_bytes l.out ++ text_of (each move_lines (drop l.link-index l.links) l.draws.number).0 ≡ string_bytes l.fn.out ++ text_of (each move_lines l.links l.fn.draws.number).0)
    × ((each move_lines (drop l.link-index l.links) l.draws.number).1 ≡ (each move_lines l.links l.fn.draws.number).1)

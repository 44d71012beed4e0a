use Rattle.std.proofs.Common.{◌≡◌, drop, map}
use Rattle.model_syntax.specs.Printing.{move_said}
use Rattle.model_syntax.specs.Drafts.{with_lines}
use Rattle.model_syntax.proofs.print.moves.Given as goal

-- with what is left, all lines are there
abbrev pub invariant-loop-x : goal.invariant-loop-x
invariant-loop-x l = with_lines l.out (map (move_said l.model) (drop l.x-index l.x-items)) ≡ with_lines l.fn.out (map (move_said l.model) l.model.moves)

use Rattle.std.proofs.Common.{◌≡◌, ◌+◌, ◌++◌, List, length}
use Rattle.control_program.specs.Flat.{Entry}
use Rattle.control_program.specs.Places.{marked}
use Rattle.control_program.proofs.Clearing.{Cleared}
use Rattle.control_program.proofs.marks.clear.Given as goal

abbrev pub invariant-loop-at : goal.invariant-loop-at
invariant-loop-at l = (length l.marks ≡ length l.fn.marks) × ((before middle after : List Entry) → marked l.nodes l.fn.marks ≡ before ++ middle ++ after → length before ≡ l.from
    → length before + length middle ≡ l.to → Cleared before middle after (marked l.nodes l.marks) l.at)

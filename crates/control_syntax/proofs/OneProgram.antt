-- Lines are read to the end of a program exactly where they are that program, as it is written; and they are one program.
use Rattle.std.proofs.Common.{◌≡◌, List, [], ◌∷◌, sym, ap, ◌∙◌}
use Rattle.std.proofs.lemmas.Option.{same_Some}
use Rattle.control_syntax.specs.declared.line.Line.{Line}
use Rattle.control_syntax.specs.Reading.{Reading, after, nothing_read}
use Rattle.control_syntax.specs.Written.{ProgramsAreOne, ProgramsAreRead}
use Rattle.control_syntax.proofs.ReadAsWritten.{program_read}
use Rattle.control_syntax.proofs.Runs.{Runs, from_lines, to_lines}
use Rattle.control_syntax.proofs.WrittenIsRead.{program_runs}

-- lines run to one end
runs_once : (ls : List Line) (r a b : Reading) → Runs r ls a → Runs r ls b → a ≡ b
runs_once [] r a b h k = h ∙ sym k
runs_once (l ∷ ls) r a b h k = runs_once ls (after r l) a b h.2 k.2

pub programs_are_one : ProgramsAreOne
programs_are_one ls p q h k =
    let x = program_runs ls p h in
    let y = program_runs ls q k in
    same_Some p q (sym x.2 ∙ ap (λ (r : Reading). r.whole) (runs_once ls nothing_read x.0 y.0 x.1 y.1) ∙ y.2)

pub programs_are_read : ProgramsAreRead
programs_are_read m texts part = (
  λ (next, read, some). let lines = to_lines m texts part nothing_read next read some in (lines.0, lines.1, program_read part lines.0 next lines.2 some),
  λ (ls, lines, program). let run = program_runs ls part program in (run.0, from_lines m texts ls nothing_read run.0 lines run.1, run.2),
)

-- The form ends behind a line only where that is refused, and is never rejected.
use Rattle.std.proofs.Common.{ℕ, List, Option, Result, Ok, Err, refl}
use Rattle.cca_base.specs.PlantModel.{PlantModel}
use Rattle.control_syntax.specs.Reading.{Reading, led}
use Rattle.control_syntax.specs.declared.line.Line.{Line}
use Rattle.line_forms.proofs.EndsRefused.{lines_end_by_refusal, lines_fixed}
use Rattle.line_machine.specs.Next.{Stops}
use Rattle.line_machine.specs.declared.machine.End.{End}
use Rattle.line_machine.specs.declared.machine.End.TheVariants.{Ended, Refused}
use Rattle.line_machine.proofs.EndsSo.{same_end, not_end}
use Rattle.model_form.proofs.NeverRejected.{IsNotRejected, refused_not, ended_not}
use Rattle.model_form.proofs.RefusedOnly.{EndsByRefusal, IsRefused}
use Rattle.program_form.specs.OneStep.{said_one, serves_one}
use Rattle.program_form.specs.ProgramMachine.{ProgramState, Stage, Reads, Runs, ReadsBy, ServesIn, behind_line, closing_in, lines_machine, program_first, program_lines, running}
use Rattle.program_form.specs.declared.item.ProgramItem.{ProgramItem}
use Rattle.program_form.specs.declared.item.ProgramItem.TheVariants as items

reads_refused : (said : Result (Option Line) ℕ) (x : ProgramState) (y : Reading) (n : ℕ) (e : End) (text : List ℕ) → ReadsBy said x y n (Stops e) text → IsRefused e
reads_refused (Err code) x y n e text h = same_end e Refused h.0
reads_refused (Ok said) x y n e text h = absurd (not_end e (behind_line x (led y said)) h.0)

serves_refused : (s : Stage) (i : ProgramItem) (x : ProgramState) (n : ℕ) (e : End) (text : List ℕ) → ServesIn s i x n (Stops e) text → IsRefused e
serves_refused (Reads y) (items.Reads line) x n e text (said, is, h) = reads_refused said x y n e text h
serves_refused (Reads y) (items.Makes event) x n e text h = absurd h
serves_refused (Runs c) (items.Reads line) x n e text h = absurd h
serves_refused (Runs c) (items.Makes event) x n e text (y, next, prints, to) = absurd (not_end e (running x.compiled y next) to)

closing_not : (s : Stage) (m : PlantModel) (n : ℕ) → IsNotRejected (closing_in s m n).end
closing_not (Reads y) m n = refused_not Refused refl
closing_not (Runs c) m n = ended_not Ended refl

pub program_ends : EndsByRefusal program_first lines_machine
program_ends = lines_end_by_refusal program_lines (λ i x n e text h. serves_refused x.stage i x n e text h) program_first (λ x n. closing_not x.stage x.compiled.model n) (lines_fixed program_lines said_one serves_one)

-- `program` keeps what it promises: while its program is read nothing is printed, and behind that its input may end anywhere.
use Rattle.std.proofs.Common.{◌≡◌, ◌⊎◌, ℕ, inl, inr, false, Option, Some, None, Result, Ok, Err, List, [], refl, sym, subst}
use Rattle.cca_base.specs.PlantModel.{PlantModel}
use Rattle.control_syntax.specs.Reading.{Reading}
use Rattle.control_syntax.specs.declared.line.Line.{Line}
use Rattle.line_forms.specs.LinesMachine.{DoesBy}
use Rattle.line_machine.specs.Fronts.{PrintsByLines}
use Rattle.line_machine.specs.Next.{GoesOn}
use Rattle.line_machine.specs.declared.machine.End.TheVariants.{Ended, Refused}
use Rattle.line_machine.proofs.EndsSo.{not_end}
use Rattle.model_form.specs.Answers.{AnswersByEnd, answer}
use Rattle.model_form.specs.FormMeaning.{FormKeeps}
use Rattle.model_form.specs.FormStates.{form_first}
use Rattle.model_form.specs.LinesEnds.{IsReadWhole, HasRefusedLine}
use Rattle.model_form.proofs.ByLines.{form_by_lines, reading_keeps}
use Rattle.program_form.specs.Headline.{IsProgramTrace}
use Rattle.program_form.specs.Printed.{SaysRun}
use Rattle.program_form.specs.ProgramMachine.{ProgramState, Stage, Reads, Runs, ReadsBy, ServesIn, closing_in, lines_machine, program_form, program_lines, program_machine, running}
use Rattle.program_form.specs.ProgramMeaning.{EndsSequence, program_meaning}
use Rattle.program_form.specs.declared.item.ProgramItem.{ProgramItem}
use Rattle.program_form.specs.declared.item.ProgramItem.TheVariants as items
use Rattle.program_form.proofs.ProgramEnds.{program_ends}
use Rattle.program_form.proofs.ProgramsTraced.{programs_are_traced}

-- the program is still read
abbrev IsRead : Stage → Type 0
IsRead (Reads y) = Unit {0}
IsRead (Runs c) = ⊥

closing : (s : Stage) (m : PlantModel) → IsRead s ⊎ ((n : ℕ) → answer Ended [] ≡ closing_in s m n)
closing (Reads y) m = inl tt
closing (Runs c) m = inr (λ n. refl)

-- where more of the program is read, nothing is printed
reads_on : (said : Result (Option Line) ℕ) (x : ProgramState) (y : Reading) (n : ℕ) (t : ProgramState) (text : List ℕ) → ReadsBy said x y n (GoesOn t) text → text ≡ []
reads_on (Err code) x y n t text h = absurd (not_end Refused t (sym h.0))
reads_on (Ok said) x y n t text h = h.1

-- a program that runs isn't read again
serves_on : (s : Stage) (i : ProgramItem) (x : ProgramState) (n : ℕ) (t : ProgramState) (text : List ℕ) → ServesIn s i x n (GoesOn t) text → IsRead t.stage → IsRead s × (text ≡ [])
serves_on (Reads y) (items.Reads line) x n t text (said, is, h) read = (tt, reads_on said x y n t text h)
serves_on (Reads y) (items.Makes e) x n t text h read = absurd h
serves_on (Runs c) (items.Reads line) x n t text h read = absurd h
serves_on (Runs c) (items.Makes e) x n t text (y, next, prints, to) read =
    absurd (let same : t ≡ running x.compiled y next = cc in subst (λ (z : ProgramState). IsRead z.stage) same read)

does_on : (said : Result (Option ProgramItem) ℕ) (x : ProgramState) (n : ℕ) (t : ProgramState) (text : List ℕ) → DoesBy program_lines said x n (GoesOn t) text → IsRead t.stage → IsRead x.stage × (text ≡ [])
does_on (Err code) x n t text h read = absurd (not_end Refused t (sym h.0))
does_on (Ok None) x n t text h read = (let same : t ≡ x = (let at : GoesOn t ≡ GoesOn x = h.0 in cc) in subst (λ (z : ProgramState). IsRead z.stage) same read, h.1)
does_on (Ok (Some i)) x n t text h read = serves_on x.stage i x n t text h read

by_lines : PrintsByLines program_machine (form_first (record {}))
by_lines =
    form_by_lines program_form lines_machine (λ x. IsRead x.stage) (λ x. closing x.stage x.compiled.model) (λ f b n t text h read. h.1) (λ x n l t text (said, is, h) read. does_on said x n t text h read) (form_first (record {}))

pub program_keeps : FormKeeps program_meaning
program_keeps =
    reading_keeps program_machine (form_first (record {})) (AnswersByEnd false SaysRun) (IsReadWhole EndsSequence) (HasRefusedLine EndsSequence) IsProgramTrace programs_are_traced by_lines (program_ends.sure (form_first (record {})))

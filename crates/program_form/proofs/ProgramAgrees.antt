-- `program` does what it means.
use Rattle.std.proofs.Common.{◌≡◌, ℕ, List, refl, sym, ap, ◌∙◌}
use Rattle.cca_base.specs.Accepted.{CompiledModel}
use Rattle.line_machine.specs.declared.machine.End.{End}
use Rattle.model_form.specs.FormMeaning.{FormAgrees}
use Rattle.model_form.specs.LinesEnds.{LinesEnd, ending}
use Rattle.model_form.proofs.LinesAgree.{lines_form_agrees}
use Rattle.program_form.specs.Headline.{IsProgramTrace}
use Rattle.program_form.specs.Printed.{SaysRun}
use Rattle.program_form.specs.ProgramMachine.{lines_machine, program_first}
use Rattle.program_form.specs.ProgramMeaning.{EndsSequence, program_meaning}
use Rattle.program_form.specs.Sequences.{Sequence}
use Rattle.program_form.proofs.OneSequence.{sequence_one}
use Rattle.program_form.proofs.ProgramEnds.{program_ends}
use Rattle.program_form.proofs.ProgramsTold.{programs_are_told}

-- the program ends as the lines do
ends_as : (b : CompiledModel) (n : ℕ) (ls : List (List ℕ)) (e : End) (text : List ℕ) → SaysRun b n ls e text → (lines : LinesEnd) × EndsSequence b n ls lines × (e ≡ (ending b.model lines).end)
ends_as b n ls e text (r, told, says, run, ends, parts) = (r.ending, (r, says, refl), ends)

-- lines end in one way
one_end : (b : CompiledModel) (n : ℕ) (ls : List (List ℕ)) (x y : LinesEnd) → EndsSequence b n ls x → EndsSequence b n ls y → x ≡ y
one_end b n ls x y (r, says, is) (q, also, was) = sym is ∙ ap (λ (z : Sequence). z.ending) (sequence_one b.model n ls r q says also) ∙ was

pub program_agrees : FormAgrees program_meaning
program_agrees = lines_form_agrees SaysRun EndsSequence IsProgramTrace ends_as one_end program_first lines_machine programs_are_told program_ends.fixed

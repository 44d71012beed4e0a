-- What the machine of `program` prints for an input is what is told of its program's run, both ways.
use Rattle.std.proofs.Common.{ℕ, List, ◌++◌, sym, subst}
use Rattle.cca_base.specs.Accepted.{CompiledModel, IsCompiled}
use Rattle.control_syntax.specs.Reading.{nothing_read}
use Rattle.line_machine.specs.Completes.{Completes}
use Rattle.line_machine.specs.Next.{GoesOn}
use Rattle.line_machine.specs.declared.machine.End.{End}
use Rattle.model_form.specs.LinesEnds.{ending}
use Rattle.model_form.proofs.Following.{lines_told}
use Rattle.program_form.specs.Printed.{SaysRun, all_told}
use Rattle.program_form.specs.ProgramMachine.{lines_machine, program_first}
use Rattle.program_form.specs.ProgramMeaning.{ProgramsAreTold}
use Rattle.program_form.proofs.ProgramLines.{prints, runs}

module _ (b : CompiledModel) (n : ℕ) (ls : List (List ℕ)) (e : End) (text : List ℕ) (compiled : IsCompiled b) where
  -- what is printed from the first line on
  abbrev Prints : End → List ℕ → Type 0
  Prints f t = Completes lines_machine (GoesOn (program_first b)) n ls f t

  told : Prints e text → SaysRun b n ls e text
  told h = let q = prints b compiled ls nothing_read n e text h in (q.sequence, q.told, q.says, q.runs, q.end, q.parts)

  tells : SaysRun b n ls e text → Prints e text
  tells (r, ticks, says, run, end, is) =
      subst (Prints e) (sym is) (subst (λ (f : End). Prints f (all_told b.model ticks ++ (ending b.model r.ending).text)) (sym end) (runs b compiled ls nothing_read n r ticks says run))

pub programs_are_told : ProgramsAreTold
programs_are_told = lines_told program_first lines_machine SaysRun told tells

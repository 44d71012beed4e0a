-- What `program` means.
use Rattle.std.specs.Prelude.{◌≡◌, ℕ, false, List}
use Rattle.model_form.specs.Answers.{Answer, AreTold, IsAnswer}
use Rattle.model_form.specs.FormMeaning.{FormMeaning, reading_lines}
use Rattle.model_form.specs.FormStates.{form_first}
use Rattle.model_form.specs.LinesEnds.{Ending}
use Rattle.program_form.specs.Headline.{IsProgramTrace}
use Rattle.program_form.specs.Printed.{SaysRun}
use Rattle.program_form.specs.ProgramMachine.{lines_machine, program_first, program_machine}
use Rattle.program_form.specs.Sequences.{Sequence, SaysSequence}

-- the lines behind an accepted model end as what they say
abbrev pub EndsSequence : Ending
EndsSequence b n ls end = (r : Sequence) × SaysSequence b.model n ls r × (r.ending ≡ end)

-- `program` reads its whole input, where a whole program stands behind an accepted model; what it prints is the fixed run of that program
abbrev pub program_meaning : FormMeaning
program_meaning = reading_lines program_first lines_machine SaysRun EndsSequence IsProgramTrace

-- the texts of the machine are those of the program's run, both ways
abbrev pub ProgramsAreTold : Type 0
ProgramsAreTold = AreTold program_machine (form_first (record {})) false SaysRun

-- what is told of a run is the fixed trace of the lines' events with those that the program puts in
abbrev pub ProgramsAreTraced : Type 0
ProgramsAreTraced = (input : List ℕ) (a : Answer) → IsAnswer false SaysRun input a.end a.text → IsProgramTrace input a

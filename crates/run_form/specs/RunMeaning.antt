-- What `run` means.
use Rattle.std.specs.Prelude.{◌≡◌, ℕ, List, Option, None}
use Rattle.model_form.specs.Answers.{AnswersByEnd}
use Rattle.model_form.specs.FormMeaning.{FormMeaning}
use Rattle.run_form.specs.Document.{IsReadWhole, HasRefusedLine}
use Rattle.run_form.specs.Headline.{IsTraceOf}
use Rattle.run_form.specs.Notations.{is_json}
use Rattle.run_form.specs.Printed.{SaysRun}
use Rattle.run_form.specs.RunMachine.{run_machine, run_first}
use Rattle.run_form.specs.declared.notation.Notation.{Notation}

-- `run` reads its whole input, over the source or over a document that it makes, and what it prints is traced
abbrev pub run_meaning : Notation → Option (List ℕ) → FormMeaning
run_meaning notation made = record {
  State = _;
  machine = run_machine;
  first = run_first notation;
  made = made;
  says = AnswersByEnd (is_json notation) (SaysRun notation);
  nothing_refused = IsReadWhole;
  some_refused = HasRefusedLine;
  some_rejected = λ input. ⊥;
  also = IsTraceOf notation;
  reads_to_end = made ≡ None;
  is_silent = ⊥;
}

-- What the definitions of a run's text say together.
use Rattle.std.specs.Prelude.{◌≡◌, ℕ, List}
use Rattle.model_form.specs.Answers.{Answer, AreTold}
use Rattle.run_form.specs.Document.{Document, IsDocument}
use Rattle.run_form.specs.Headline.{IsTraceOf}
use Rattle.run_form.specs.Notations.{is_json}
use Rattle.run_form.specs.Printed.{IsRunOf, SaysRun}
use Rattle.run_form.specs.RunMachine.{run_machine, run_first}
use Rattle.run_form.specs.declared.notation.Notation.{Notation}

-- the texts of the machine are what a run prints, both ways
abbrev pub RunsAreTold : Type 0
RunsAreTold = (notation : Notation) → AreTold run_machine (run_first notation) (is_json notation) (SaysRun notation)

-- an input says one thing
abbrev pub DocumentsAreOne : Type 0
DocumentsAreOne = (input : List ℕ) (a b : Document) → IsDocument input a → IsDocument input b → a ≡ b

-- what a run prints is traced
pub record RunsAreTraced : Type 0 where
  pub whole : (notation : Notation) (input : List ℕ) (a : Answer) → IsRunOf notation input a → IsTraceOf notation input a

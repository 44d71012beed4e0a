-- What the definitions of the program's text say together.
use Rattle.std.specs.Prelude.{◌≡◌, ◌↔◌, ◌≤◌, ℕ, true, List, [], ◌∷◌, ◌++◌, length, All, Option, Some, String, codes}
use Rattle.std.specs.Global.{Global}
use Rattle.cca_base.specs.PlantModel.{PlantModel}
use Rattle.cca_base.specs.Model.{WellFormed, IsComplete, in_second}
use Rattle.line_machine.specs.Lines.{lines_in, all_lines}
use Rattle.line_machine.specs.Next.{Next, GoesOn}
use Rattle.line_machine.specs.Runs.{IsSure, IsText, IsPrefix}
use Rattle.line_machine.specs.declared.machine.End.{End}
use Rattle.line_machine.specs.declared.machine.TheConstants.{MAX_LINES}
use Rattle.model_syntax.specs.Printing.{printed_model}
use Rattle.model_syntax.specs.RoundTrip.{ReadsTo}
use Rattle.model_form.specs.Answers.{answer}
use Rattle.model_form.specs.FormMeaning.{FormAgrees, FormKeeps}
use Rattle.model_form.specs.FormStates.{nothing_read}
use Rattle.check_form.specs.CheckEnds.{IsAllYes}
use Rattle.run_form.specs.Document.{Document, Complete, IsDocument, IsReadWhole}
use Rattle.run_form.specs.declared.notation.Notation.{Notation}
use Rattle.run_form.specs.declared.notation.Notation.TheVariants.{Proof}
use Rattle.titan_top.specs.Meanings.{meaning_of}
use Rattle.titan_top.specs.Output.{Outcome, outcome_of, IsOutcomeFor, IsOutcome}
use Rattle.titan_top.specs.OwnTraces.{HasOwnTrace, ShowsLong}
use Rattle.titan_top.specs.Statuses.{end_status}
use Rattle.titan_top.specs.Streams.{FitsIn, input_for}
use Rattle.titan_top.specs.declared.status.Status.TheVariants.{Ended}
use Rattle.titan_top.specs.declared.words.Form.{Form}
use Rattle.titan_top.specs.declared.words.Form.TheVariants.{Run, Show, Check, Migrate}

-- each form's machine prints what the form means, and the other way round
abbrev pub FormsDoWhatTheyMean : Type 0
FormsDoWhatTheyMean = (form : Form) → FormAgrees (meaning_of form)

-- each form keeps what it promises beside its text
abbrev pub FormsKeepTheirPromises : Type 0
FormsKeepTheirPromises = (form : Form) → FormKeeps (meaning_of form)

-- for words and an input there is one outcome at most
abbrev pub OutcomesAreOne : Type 0
OutcomesAreOne = (words : List (String Global)) (input : List ℕ) (a b : Outcome) → IsOutcome words input a → IsOutcome words input b → a ≡ b

-- the machines print what the documents say: a text of a form's machine is an outcome of the form, and each outcome is such a text
pub record TextsAreOutcomes : Type 0 where
  pub says : (form : Form) (input : List ℕ) (e : End) (text : List ℕ) → IsText (meaning_of form).machine (meaning_of form).first input e text → IsOutcomeFor form input (outcome_of (answer e text))
  pub comes : (form : Form) (input : List ℕ) (o : Outcome) → IsOutcomeFor form input o → (e : End) × IsText (meaning_of form).machine (meaning_of form).first input e o.text × (o.status ≡ end_status e)

-- what some bytes alone decide is a prefix of the text of each input that begins with them; where they don't decide the end, show and check print nothing
pub record SureTextBegins : Type 0 where
  pub begins : (form : Form) (a more x : List ℕ) (t : Next (meaning_of form).State) (o : Outcome) → IsSure (meaning_of form).machine (meaning_of form).first a t x → IsOutcomeFor form (a ++ more) o → IsPrefix x o.text
  pub silent : (a x : List ℕ) (t : (meaning_of Show).State) → IsSure (meaning_of Show).machine (meaning_of Show).first a (GoesOn t) x → x ≡ []
  pub silent_check : (a x : List ℕ) (t : (meaning_of Check).State) → IsSure (meaning_of Check).machine (meaning_of Check).first a (GoesOn t) x → x ≡ []

-- what a run with proofs prints of a document is checked: each tick of it gets a yes, and no line is left
abbrev pub OwnTracesAreChecked : Type 0
OwnTracesAreChecked = (input : List ℕ) → HasOwnTrace input → IsAllYes input

-- a run with proofs that ends has such an input: its document, whose last line ends, a line `trace` and its text, where there are not too many lines and none shows a
-- plan or a way back as too long
abbrev pub RunsHaveOwnTraces : Type 0
RunsHaveOwnTraces = (front text input : List ℕ) → input ≡ (front ++ 10 ∷ []) ++ (codes "trace" ++ 10 ∷ []) ++ text → IsOutcomeFor (Run Proof) (front ++ 10 ∷ []) (record { text = text; status = Ended })
    → length (all_lines (lines_in input)) ≤ MAX_LINES → All (λ l. ShowsLong l → ⊥) (all_lines (lines_in input)) → HasOwnTrace input

-- a migration has the status of a run; where nothing of an input is refused, it has a migration that ends, which is its document in version 2, is run as it is, and is migrated to itself
pub record MigrationsRunAlike : Type 0 where
  pub status : (notation : Notation) (input : List ℕ) (o p : Outcome) → IsOutcomeFor Migrate input o → IsOutcomeFor (Run notation) input p → o.status ≡ p.status
  pub some : (input : List ℕ) → IsReadWhole input → (o : Outcome) × IsOutcomeFor Migrate input o × (o.status ≡ Ended)
  pub document : (input : List ℕ) (r : Document) (o : Outcome) → IsDocument input r → r.ending ≡ Complete → IsOutcomeFor Migrate input o → IsDocument o.text (record r { model = in_second r.model })
  pub runs : (notation : Notation) (input : List ℕ) (o p : Outcome) → IsReadWhole input → IsOutcomeFor Migrate input o → IsOutcomeFor (Run notation) input p ↔ IsOutcomeFor (Run notation) o.text p
  pub again : (input : List ℕ) (o : Outcome) → IsReadWhole input → IsOutcomeFor Migrate input o → IsOutcomeFor Migrate o.text o

-- where the input that is read has an outcome, its length is room enough
abbrev pub OutcomesFit : Type 0
OutcomesFit = (form : Form) (left : Option (List ℕ)) (input : List ℕ) (o : Outcome) (n : ℕ) → input_for (Some form) left ≡ Some input → IsOutcomeFor form input o → length o.text ≤ n → FitsIn n (Some form) left

-- the lines of a model's printed text, read from the first on, give the model
abbrev pub PrintedTextsReadBack : Type 0
PrintedTextsReadBack = (m : PlantModel) → WellFormed m → IsComplete m → ReadsTo nothing_read (all_lines (lines_in (printed_model m))) (record { model = m; begun = true })

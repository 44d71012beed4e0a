-- A document with its own trace behind it: what a check is given of a run with proofs.
use Rattle.std.specs.Prelude.{◌≡◌, ◌≤◌, ◌⊎◌, ℕ, IsTrue, List, [], ◌∷◌, ◌++◌, length, All, codes}
use Rattle.line_machine.specs.Lines.{lines_in, all_lines, HasNoLf}
use Rattle.line_machine.specs.declared.machine.TheConstants.{MAX_LINES}
use Rattle.check_form.specs.CheckScript.{is_trace_line}
use Rattle.titan_top.specs.Output.{IsOutcomeFor}
use Rattle.model_form.specs.declared.limits.TheConstants.{MAX_LINE}
use Rattle.run_form.specs.declared.notation.Notation.TheVariants.{Proof}
use Rattle.titan_top.specs.declared.status.Status.TheVariants.{Ended}
use Rattle.titan_top.specs.declared.words.Form.TheVariants.{Run}

-- the line shows a plan or a way back as too long to be written out
abbrev pub ShowsLong : List ℕ → Type 0
ShowsLong l = (l ≡ codes "plan long") ⊎ (l ≡ codes "back long")

-- a line whose only token is the word `trace`
pub record IsTraceLine (line : List ℕ) : Type 0 where
  pub is : IsTrue (is_trace_line line)
  pub clean : HasNoLf line
  pub short : length line ≤ MAX_LINE

-- a document whose last line ends and of which nothing is refused, a line `trace`, and the text that a run with proofs prints of the document. There are not too many
-- lines, and none shows a plan or a way back as too long
pub record HasOwnTrace (input : List ℕ) : Type 0 where
  pub front : List ℕ
  pub trace : List ℕ
  pub text : List ℕ
  pub parts : input ≡ (front ++ 10 ∷ []) ++ (trace ++ 10 ∷ []) ++ text
  pub runs : IsOutcomeFor (Run Proof) (front ++ 10 ∷ []) (record { text = text; status = Ended })
  pub between : IsTraceLine trace
  pub few : length (all_lines (lines_in input)) ≤ MAX_LINES
  pub written : All (λ l. ShowsLong l → ⊥) (all_lines (lines_in input))

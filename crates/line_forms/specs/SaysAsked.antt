-- What a form of lines that ask for things means, by what they ask for and by the text of that.
use Rattle.std.specs.Prelude.{◌≡◌, ℕ, List, ◌++◌}
use Rattle.cca_base.specs.Accepted.{CompiledModel}
use Rattle.line_forms.specs.LinesMachine.{lines_machine}
use Rattle.line_forms.specs.LineMeaning.{LineMeaning}
use Rattle.model_form.specs.Answers.{Answer, Saying}
use Rattle.model_form.specs.FormMeaning.{FormMeaning, reading_lines}
use Rattle.model_form.specs.LinesEnds.{Asked, Ending, ending}

module _ {X : Type 0} (Reads : CompiledModel → ℕ → List (List ℕ) → Asked X → Type 0) (Texts : CompiledModel → List X → List ℕ → Type 0) where
  -- what is printed of the lines: the text of what they ask for, and the line of a refusal comes last
  abbrev pub SaysAsked : Saying
  SaysAsked b n ls e text =
      (r : Asked X) × (told : List ℕ) × Reads b n ls r × Texts b r.items told × (e ≡ (ending b.model r.ending).end) × (text ≡ told ++ (ending b.model r.ending).text)

  -- how the lines end
  abbrev pub EndsAsked : Ending
  EndsAsked b n ls end = (r : Asked X) × Reads b n ls r × (r.ending ≡ end)

  -- what the form means, with what it promises beside its text
  abbrev pub asked_meaning : {L R : Type 0} → LineMeaning L R → (CompiledModel → L) → (List ℕ → Answer → Type 0) → FormMeaning
  asked_meaning form first also = reading_lines first (lines_machine form) SaysAsked EndsAsked also

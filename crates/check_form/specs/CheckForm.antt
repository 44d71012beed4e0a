-- The form `check`, and what it prints for an input.
use Rattle.std.specs.Prelude.{◌≡◌, ℕ, false, List}
use Rattle.line_machine.specs.Runs.{IsText}
use Rattle.line_machine.specs.declared.machine.End.{End}
use Rattle.line_machine.specs.declared.machine.End.TheVariants.{Ended, Rejected}
use Rattle.line_machine.specs.declared.machine.Machine.{Ghosts}
use Rattle.model_form.specs.Answers.{Answer, answer, refused_answer}
use Rattle.model_form.specs.FormMachine.{form_machine}
use Rattle.model_form.specs.FormStates.{FormState, form_first}
use Rattle.model_form.specs.ModelTexts.{ModelText, EndsModel}
use Rattle.model_form.specs.LineMachines.{form_of_lines}
use Rattle.model_form.specs.declared.form.ModelForm.{Ghosts as FormGhosts}
use Rattle.model_form.specs.declared.lines.OfLines.{OfLines}
use Rattle.check_form.specs.CheckEnds.{EndsByModel}
use Rattle.check_form.specs.CheckMachine.{CheckState, check_first, checking_machine}
use Rattle.check_form.specs.CheckTrace.{CheckEnd, AllYes, FirstNo, FirstRefusal}
use Rattle.check_form.specs.Verdicts.{no_line, checked_line}

-- what the form says at the line `script`
abbrev pub check_form : FormGhosts OfLines CheckState
check_form = form_of_lines check_first

-- the machine of the form `check`
abbrev pub check_machine : Ghosts (FormState OfLines CheckState)
check_machine = form_machine check_form checking_machine

-- what is printed of how a check ends
abbrev pub judged : CheckEnd → Answer
judged (AllYes ticks) = answer Ended (checked_line ticks)
judged (FirstNo tick reason) = answer Rejected (no_line tick reason)
judged (FirstRefusal m line r) = refused_answer false m line r

-- what a check prints, by how the model ends
abbrev pub IsCheck : ModelText → End → List ℕ → Type 0
IsCheck m e text = (end : CheckEnd) × EndsByModel m end × (answer e text ≡ judged end)

-- the texts of the machine are what is printed of how the input is judged, both ways
pub record ChecksAreJudged : Type 0 where
  pub says : (input : List ℕ) (e : End) (text : List ℕ) → IsText check_machine (form_first (record {})) input e text → (m : ModelText) × EndsModel input m × IsCheck m e text
  pub comes : (input : List ℕ) (e : End) (text : List ℕ) (m : ModelText) → EndsModel input m → IsCheck m e text → IsText check_machine (form_first (record {})) input e text

-- What `show` prints for an input.
use Rattle.std.specs.Prelude.{◌≡◌, false}
use Rattle.line_machine.specs.declared.machine.End.TheVariants.{Ended}
use Rattle.line_machine.specs.declared.machine.Machine.{Ghosts}
use Rattle.trace_text.specs.Compiled.{show_text}
use Rattle.model_form.specs.Answers.{Saying, AreTold}
use Rattle.model_form.specs.FormMachine.{form_machine}
use Rattle.model_form.specs.FormStates.{FormState, form_first}
use Rattle.model_form.specs.NoLines.{no_lines}
use Rattle.model_form.specs.declared.form.ModelForm.{Ghosts as FormGhosts}
use Rattle.model_form.specs.declared.no_lines.NoLines.{NoLines}
use Rattle.show_form.specs.Shows.{Shows}
use Rattle.show_form.specs.declared.show.Show.{Show}

-- what the form says at the line `script`
abbrev pub show_form : FormGhosts Show NoLines
show_form = record { is_json = λ s. false; begins = λ s. Shows }

-- the machine of the form `show`
abbrev pub show_machine : Ghosts (FormState Show NoLines)
show_machine = form_machine show_form no_lines

-- behind an accepted model its text is printed, whatever lines stand there
abbrev pub SaysShown : Saying
SaysShown b n ls e text = (e ≡ Ended) × (text ≡ show_text b)

-- the texts of the machine are the answers, both ways
abbrev pub ModelsAreShown : Type 0
ModelsAreShown = AreTold show_machine (form_first (record {})) false SaysShown

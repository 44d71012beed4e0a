-- The machine of `run`: behind a model it makes the events of a script.
use Rattle.line_machine.specs.declared.machine.Machine.{Ghosts}
use Rattle.model_form.specs.FormMachine.{form_machine}
use Rattle.model_form.specs.FormStates.{FormState, form_first}
use Rattle.model_form.specs.declared.form.ModelForm.{Ghosts as FormGhosts}
use Rattle.run_form.specs.Notations.{is_json}
use Rattle.run_form.specs.ScriptMachine.{ScriptState, Begins, script_machine}
use Rattle.run_form.specs.declared.notation.Notation.{Notation}
use Rattle.run_form.specs.declared.run.RunAs.{RunAs}

-- what the form says at the line `script`
abbrev pub run_form : FormGhosts RunAs ScriptState
run_form = record { is_json = λ f. is_json f.notation; begins = λ f. Begins f.notation }

-- the machine of the form `run`
abbrev pub run_machine : Ghosts (FormState RunAs ScriptState)
run_machine = form_machine run_form script_machine

-- where the machine of a run stands before the first line
abbrev pub run_first : Notation → FormState RunAs ScriptState
run_first notation = form_first (record { notation = notation })

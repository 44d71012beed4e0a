-- A run ends behind a line only where that is refused.
use Rattle.std.proofs.Common.{ℕ, List, Option, Some, None, Result, Ok, Err}
use Rattle.cca_base.specs.declared.events.Event.{Event}
use Rattle.cca_base.specs.Accepted.{CompiledModel}
use Rattle.line_forms.proofs.EndsRefused.{lines_fixed}
use Rattle.line_forms.specs.LinesMachine.{DoesBy}
use Rattle.line_machine.specs.Next.{Stops}
use Rattle.line_machine.specs.Runs.{IsSure}
use Rattle.line_machine.specs.declared.machine.End.{End}
use Rattle.line_machine.specs.declared.machine.End.TheVariants.{Refused}
use Rattle.line_machine.proofs.EndsSo.{same_end, not_end}
use Rattle.line_machine.proofs.RunsAreOne.{IsFixed}
use Rattle.model_form.specs.FormStates.{FormState}
use Rattle.model_form.specs.OneStep.{goes_on_one_way}
use Rattle.model_form.proofs.FormEnds.{form_is_fixed}
use Rattle.model_form.proofs.RefusedOnly.{IsRefused, sure_refused}
use Rattle.run_form.specs.OneScript.{said_one, serves_one}
use Rattle.run_form.specs.RunMachine.{run_form, run_machine}
use Rattle.run_form.specs.ScriptMachine.{ScriptState, Begins, script_lines, script_machine, script_first, after_event}
use Rattle.run_form.specs.declared.run.RunAs.{RunAs}

begins_refused : (f : RunAs) (b : CompiledModel) (n : ℕ) (e : End) (text : List ℕ) → Begins f.notation b n (Stops e) text → IsRefused e
begins_refused f b n e text h = absurd (not_end e (script_first f.notation b) h.0)

does_refused : (said : Result (Option Event) ℕ) (x : ScriptState) (n : ℕ) (e : End) (text : List ℕ) → DoesBy script_lines said x n (Stops e) text → IsRefused e
does_refused (Err code) x n e text h = same_end e Refused h.0
does_refused (Ok None) x n e text h = absurd (not_end e x h.0)
does_refused (Ok (Some event)) x n e text (y, report, acts, at, words) = absurd (not_end e (after_event x y report) at)

pub run_sure_refused : (first : FormState RunAs ScriptState) (bytes : List ℕ) (e : End) (text : List ℕ) → IsSure run_machine first bytes (Stops e) text → IsRefused e
run_sure_refused = sure_refused run_form script_machine begins_refused (λ x n l e text (said, is, h). does_refused said x n e text h)

-- a state and a line lead to one state and one text
pub run_fixed : IsFixed run_machine
run_fixed = form_is_fixed run_form script_machine (λ f b n u v a c h k. goes_on_one_way h k) (lines_fixed script_lines said_one serves_one)

-- A migration ends behind a line only where that is refused.
use Rattle.std.proofs.Common.{ℕ, List, Option, Some, None, Result, Ok, Err}
use Rattle.cca_base.specs.Accepted.{CompiledModel}
use Rattle.cca_base.specs.Model.{in_second}
use Rattle.line_forms.proofs.EndsRefused.{lines_fixed}
use Rattle.line_forms.specs.LinesMachine.{DoesBy}
use Rattle.line_machine.specs.Next.{Stops}
use Rattle.line_machine.specs.Runs.{IsSure}
use Rattle.line_machine.specs.declared.machine.End.{End}
use Rattle.line_machine.specs.declared.machine.End.TheVariants.{Refused}
use Rattle.line_machine.proofs.EndsSo.{same_end, not_end}
use Rattle.line_machine.proofs.RunsAreOne.{IsFixed}
use Rattle.model_form.specs.FormStates.{FormState}
use Rattle.model_form.proofs.FormEnds.{form_is_fixed}
use Rattle.model_form.proofs.RefusedOnly.{IsRefused, sure_refused}
use Rattle.trace_laws.specs.Events.{mirrored_after}
use Rattle.migrate_form.specs.MigrateMachine.{ScriptSoFar, Begins, migrate_form, migrate_machine, script_first, script_machine, second_lines}
use Rattle.migrate_form.specs.OneStep.{begins_one_way, said_one, serves_one}
use Rattle.migrate_form.specs.declared.migrate.Migrate.{Migrate}
use Rattle.migrate_form.specs.declared.script.KeptLine.{KeptLine}

begins_refused : (f : Migrate) (b : CompiledModel) (n : ℕ) (e : End) (text : List ℕ) → Begins b n (Stops e) text → IsRefused e
begins_refused f b n e text h = absurd (not_end e (script_first (in_second b.model)) h.0)

does_refused : (said : Result (Option KeptLine) ℕ) (x : ScriptSoFar) (n : ℕ) (e : End) (text : List ℕ) → DoesBy second_lines said x n (Stops e) text → IsRefused e
does_refused (Err code) x n e text h = same_end e Refused h.0
does_refused (Ok None) x n e text h = absurd (not_end e x h.0)
does_refused (Ok (Some k)) x n e text (after, known, at, words) = absurd (not_end e (record x { pending = after; mirrored = mirrored_after x.mirrored k.event }) at)

pub migrate_sure_refused : (first : FormState Migrate ScriptSoFar) (bytes : List ℕ) (e : End) (text : List ℕ) → IsSure migrate_machine first bytes (Stops e) text → IsRefused e
migrate_sure_refused = sure_refused migrate_form script_machine begins_refused (λ x n l e text (said, is, h). does_refused said x n e text h)

-- a state and a line lead to one state and one text
pub migrate_fixed : IsFixed migrate_machine
migrate_fixed = form_is_fixed migrate_form script_machine (λ f b n u v a c h k. begins_one_way h k) (lines_fixed second_lines said_one serves_one)

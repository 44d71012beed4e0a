-- Behind an accepted model a run in words takes no memory.
use Rattle.std.proofs.Common.{◌≡◌, ℕ, ◌≤◌, List, Option, Some, None, Result, Ok, Err, refl, sym, subst, arith}
use Rattle.cca_base.specs.Accepted.{CompiledModel, IsCompiled}
use Rattle.cca_base.specs.declared.events.Event.{Event}
use Rattle.cca_base.specs.declared.limits.TheConstants.{MAX_COMPONENTS}
use Rattle.line_forms.specs.LinesMachine.{DoesBy}
use Rattle.line_machine.specs.Next.{GoesOn}
use Rattle.line_machine.specs.Runs.{IsSure}
use Rattle.line_machine.specs.declared.driver.TheConstants.{OUT_ROOM}
use Rattle.line_machine.specs.declared.machine.End.TheVariants.{Refused}
use Rattle.line_machine.proofs.EndsSo.{not_end}
use Rattle.model_form.specs.FormStates.{FormState, InModel, Behind}
use Rattle.model_form.specs.ModelEnds.{HoldsModel}
use Rattle.model_form.proofs.HeldModels.{IsBehind, held_so}
use Rattle.run_form.specs.RunMachine.{run_form, run_machine, run_first}
use Rattle.run_form.specs.ScriptMachine.{ScriptState, ScriptSteady, script_lines, script_machine, script_first, after_event}
use Rattle.run_form.specs.declared.notation.Notation.TheVariants.{Words}
use Rattle.run_form.specs.declared.run.RunAs.{RunAs}
use Rattle.trace_text.specs.ReportRefs.{most_bytes}

-- no line takes memory from here on
abbrev IsSteady : ScriptState → Type 0
IsSteady x = ScriptSteady x OUT_ROOM

same_going : (t x : ScriptState) → GoesOn t ≡ GoesOn x → x ≡ t
same_going t x e = cc

-- a script begins so
begins_steady : (b : CompiledModel) (t : ScriptState) → IsCompiled b → GoesOn t ≡ GoesOn (script_first Words b) → IsSteady t
begins_steady b t compiled e =
    subst IsSteady (same_going t (script_first Words b) e) record { words = refl; report = omega (arith, compiled.accepted.well_formed.components); refusal = omega arith }

-- and its lines keep it
does_steady : (said : Result (Option Event) ℕ) (x : ScriptState) (n : ℕ) (t : ScriptState) (text : List ℕ) → IsSteady x → DoesBy script_lines said x n (GoesOn t) text → IsSteady t
does_steady (Err code) x n t text so h = absurd (not_end Refused t (sym h.0))
does_steady (Ok None) x n t text so h = subst IsSteady (same_going t x h.0) so
does_steady (Ok (Some event)) x n t text so (y, report, acts, at, words) =
    subst IsSteady (same_going t (after_event x y report) at) record { words = so.words; report = so.report; refusal = so.refusal }

steady_there : (x : FormState RunAs ScriptState) → IsBehind run_form script_machine (record { notation = Words }) IsSteady (λ b n t text compiled h. begins_steady b t compiled h.0) (λ s n l t text so (said, is, h). does_steady said s n t text so h) x → run_machine.steady x OUT_ROOM
steady_there (InModel f s) h = h
steady_there (Behind x) h = h

-- where the bytes hold an accepted model, no line takes memory
pub runs_steady : (bytes : List ℕ) (x : FormState RunAs ScriptState) (text : List ℕ) → HoldsModel bytes → IsSure run_machine (run_first Words) bytes (GoesOn x) text → run_machine.steady x OUT_ROOM
runs_steady bytes x text holds sure =
    steady_there x (held_so run_form script_machine (record { notation = Words }) IsSteady (λ b n t text compiled h. begins_steady b t compiled h.0) (λ s n l t text so (said, is, h). does_steady said s n t text so h) bytes x text holds sure)

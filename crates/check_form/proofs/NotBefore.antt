-- No line ends a check with a Yes, and nothing is printed before the end.
use Rattle.std.proofs.Common.{◌≡◌, ℕ, List, [], Option, Some, None, Result, Ok, Err, refl, sym, ◌∙◌}
use Rattle.cca_base.specs.Accepted.{CompiledModel}
use Rattle.line_forms.specs.LinesMachine.{DoesBy}
use Rattle.line_machine.specs.Next.{GoesOn, Stops}
use Rattle.line_machine.specs.Runs.{IsQuiet, IsSure}
use Rattle.line_machine.specs.declared.machine.End.{End}
use Rattle.line_machine.specs.declared.machine.End.TheVariants as ends
use Rattle.line_machine.proofs.EndsSo.{same_end, not_end, sure_so}
use Rattle.model_form.specs.FormStates.{FormState}
use Rattle.model_form.specs.declared.lines.OfLines.{OfLines}
use Rattle.model_form.proofs.FormEnds.{form_steps_so, form_is_quiet}
use Rattle.check_form.specs.CheckForm.{check_form, check_machine}
use Rattle.check_form.specs.CheckMachine.{CheckState, InScript, InTrace, TraceSteps, ServesIn, check_lines, checking_machine}
use Rattle.check_form.specs.CheckScript.{no_events, with_event}
use Rattle.check_form.specs.CheckTrace.{TraceSoFar, TraceOutcome, Follows, Fails}
use Rattle.check_form.specs.declared.item.CheckItem.{CheckItem}
use Rattle.check_form.specs.declared.item.CheckItem.TheVariants as items

abbrev IsNotEnded : End → Type 0
IsNotEnded e = e ≡ ends.Ended → ⊥

refused_not : (e : End) → e ≡ ends.Refused → IsNotEnded e
refused_not e h k = absurd (clash (sym h ∙ k))
  where
    clash : ends.Refused ≡ ends.Ended → ⊥
    clash c = absurd cc

rejected_not : (e : End) → e ≡ ends.Rejected → IsNotEnded e
rejected_not e h k = absurd (clash (sym h ∙ k))
  where
    clash : ends.Rejected ≡ ends.Ended → ⊥
    clash c = absurd cc

begins_not : (f : OfLines) (b : CompiledModel) (n : ℕ) (e : End) (text : List ℕ) → check_form.begins f b n (Stops e) text → IsNotEnded e
begins_not f b n e text h = absurd (not_end e (InScript b no_events) h.0)

trace_not : (o : TraceOutcome) (b : CompiledModel) (x : TraceSoFar) (e : End) (text : List ℕ) → TraceSteps o b x (Stops e) text → IsNotEnded e
trace_not (Follows t) b x e text h = absurd (not_end e (InTrace b t) h.0)
trace_not (Fails reason) b x e text h = rejected_not e (same_end e ends.Rejected h.0)

serves_not : (i : CheckItem) (s : CheckState) (e : End) (text : List ℕ) → ServesIn i s (Stops e) text → IsNotEnded e
serves_not (items.Keeps d) (InScript b s) e text (after, known, h) = absurd (not_end e (InScript b (with_event s d after)) h.0)
serves_not items.Trace (InScript b s) e text (x, comes, h) = absurd (not_end e (InTrace b x) h.0)
serves_not (items.Judges line) (InScript b s) e text h = absurd h
serves_not (items.Keeps d) (InTrace b x) e text h = absurd h
serves_not items.Trace (InTrace b x) e text h = absurd h
serves_not (items.Judges line) (InTrace b x) e text (o, leads, h) = trace_not o b x e text h

does_not : (said : Result (Option CheckItem) ℕ) (s : CheckState) (n : ℕ) (e : End) (text : List ℕ) → DoesBy check_lines said s n (Stops e) text → IsNotEnded e
does_not (Err code) s n e text h = refused_not e (same_end e ends.Refused h.0)
does_not (Ok None) s n e text h = absurd (not_end e s h.0)
does_not (Ok (Some i)) s n e text h = serves_not i s e text h

pub check_sure_not : (first : FormState OfLines CheckState) (bytes : List ℕ) (e : End) (text : List ℕ) → IsSure check_machine first bytes (Stops e) text → IsNotEnded e
check_sure_not = sure_so check_machine IsNotEnded (refused_not ends.Refused refl) (form_steps_so check_form checking_machine IsNotEnded (refused_not ends.Refused refl) begins_not (λ s n l e text (said, is, h). does_not said s n e text h))

-- ---- nothing is printed before the end

trace_quiet : (o : TraceOutcome) (b : CompiledModel) (x : TraceSoFar) (t : CheckState) (text : List ℕ) → TraceSteps o b x (GoesOn t) text → text ≡ []
trace_quiet (Follows u) b x t text h = h.1
trace_quiet (Fails reason) b x t text h = absurd (not_end ends.Rejected t (sym h.0))

serves_quiet : (i : CheckItem) (s t : CheckState) (text : List ℕ) → ServesIn i s (GoesOn t) text → text ≡ []
serves_quiet (items.Keeps d) (InScript b s) t text (after, known, h) = h.1
serves_quiet items.Trace (InScript b s) t text (x, comes, h) = h.1
serves_quiet (items.Judges line) (InScript b s) t text h = absurd h
serves_quiet (items.Keeps d) (InTrace b x) t text h = absurd h
serves_quiet items.Trace (InTrace b x) t text h = absurd h
serves_quiet (items.Judges line) (InTrace b x) t text (o, leads, h) = trace_quiet o b x t text h

does_quiet : (said : Result (Option CheckItem) ℕ) (s : CheckState) (n : ℕ) (t : CheckState) (text : List ℕ) → DoesBy check_lines said s n (GoesOn t) text → text ≡ []
does_quiet (Err code) s n t text h = absurd (not_end ends.Refused t (sym h.0))
does_quiet (Ok None) s n t text h = h.1
does_quiet (Ok (Some i)) s n t text h = serves_quiet i s t text h

pub check_is_quiet : IsQuiet check_machine
check_is_quiet = form_is_quiet check_form checking_machine (λ f b n t text h. h.1) (λ s n line t text (said, is, h). does_quiet said s n t text h)

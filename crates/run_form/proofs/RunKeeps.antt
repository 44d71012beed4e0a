-- `run` keeps what it promises: its text is traced, and it prints by lines.
use Rattle.std.proofs.Common.{◌≡◌, ◌⊎◌, ℕ, inl, inr, List, [], Option, Some, None, Result, Ok, Err, refl, sym, ap, subst}
use Rattle.cca_base.specs.Accepted.{CompiledModel}
use Rattle.cca_base.specs.Trace.{ExecutiveState}
use Rattle.cca_base.specs.declared.events.Event.{Event}
use Rattle.cca_base.specs.declared.events.TickReport.{TickReport}
use Rattle.line_forms.specs.LinesMachine.{DoesBy}
use Rattle.line_machine.specs.Next.{GoesOn}
use Rattle.line_machine.specs.declared.machine.End.TheVariants.{Ended, Refused}
use Rattle.line_machine.proofs.EndsSo.{not_end}
use Rattle.model_form.specs.Answers.{answer}
use Rattle.model_form.specs.FormMeaning.{FormKeeps}
use Rattle.model_form.proofs.ByLines.{form_by_lines}
use Rattle.run_form.specs.Notations.{closing}
use Rattle.run_form.specs.RunMachine.{run_form, run_first}
use Rattle.run_form.specs.RunMeaning.{run_meaning}
use Rattle.run_form.specs.ScriptMachine.{ScriptState, script_lines, script_machine, after_event}
use Rattle.run_form.specs.TickTexts.{EventText}
use Rattle.run_form.specs.declared.counts.Counts.{Counts}
use Rattle.run_form.specs.declared.notation.Notation.{Notation}
use Rattle.run_form.specs.declared.notation.Notation.TheVariants.{Words, Json, Proof, Summary}
use Rattle.run_form.proofs.RunEnds.{run_sure_refused}
use Rattle.run_form.proofs.TraceOfRun.{runs_are_traced}

-- it prints no tick
abbrev IsSummary : Notation → Type 0
IsSummary Words = ⊥
IsSummary Json = ⊥
IsSummary Proof = ⊥
IsSummary (Summary seed) = Unit {0}

-- each other notation prints nothing at the end
closing_by : (notation : Notation) (c : Counts) → IsSummary notation ⊎ ([] ≡ closing notation c)
closing_by Words c = inr refl
closing_by Json c = inr refl
closing_by Proof c = inr refl
closing_by (Summary seed) c = inl tt

script_closing : (x : ScriptState) → IsSummary x.notation ⊎ ((n : ℕ) → script_machine.closes x n Ended [])
script_closing x = elim (closing_by x.notation x.counts) [ inl quiet ↦ inl quiet | inr none ↦ inr (λ n. ap (answer Ended) none) ]

no_text : (notation : Notation) (b : CompiledModel) (x : ExecutiveState) (report : Option TickReport) (text : List ℕ) → IsSummary notation → EventText notation b x report text → text ≡ []
no_text notation b x None text quiet h = h
no_text (Summary seed) b x (Some report) text quiet h = h
no_text Words b x (Some report) text quiet h = absurd quiet
no_text Json b x (Some report) text quiet h = absurd quiet
no_text Proof b x (Some report) text quiet h = absurd quiet

same_going : (t x : ScriptState) → GoesOn t ≡ GoesOn x → t ≡ x
same_going t x e = cc

-- a summary goes on as a summary, and nothing is printed
does_quiet : (said : Result (Option Event) ℕ) (x : ScriptState) (n : ℕ) (t : ScriptState) (text : List ℕ) → DoesBy script_lines said x n (GoesOn t) text → IsSummary t.notation → IsSummary x.notation × (text ≡ [])
does_quiet (Err code) x n t text h quiet = absurd (not_end Refused t (sym h.0))
does_quiet (Ok None) x n t text h quiet = (subst (λ (s : ScriptState). IsSummary s.notation) (same_going t x h.0) quiet, h.1)
does_quiet (Ok (Some e)) x n t text (y, report, acts, at, words) quiet =
    let own : IsSummary x.notation = subst (λ (s : ScriptState). IsSummary s.notation) (same_going t (after_event x y report) at) quiet in
    (own, no_text x.notation x.compiled x.state report text own words)

pub run_keeps : (notation : Notation) (made : Option (List ℕ)) → FormKeeps (run_meaning notation made)
run_keeps notation made = record {
  also = runs_are_traced.whole notation;
  by_lines = form_by_lines run_form script_machine (λ x. IsSummary x.notation) script_closing (λ f b n t text h quiet. h.1) (λ x n l t text (said, is, h) quiet. does_quiet said x n t text h quiet) (run_first notation);
  to_end = λ reads bytes text h. (let never : Ended ≡ Refused = run_sure_refused (run_first notation) bytes Ended text h in absurd cc);
  silent = λ never. absurd never;
}

-- What a form's machine prints for an input is what its model says, and behind it what the form prints, both ways.
use Rattle.std.proofs.Common.{◌≡◌, ℕ, ◌+◌, List, [], ◌∷◌, ◌++◌, Option, Some, None, refl, sym, ap, subst, ◌∙◌, append-nil}
use Rattle.cca_base.specs.PlantModel.{PlantModel}
use Rattle.cca_base.specs.Refusals.{bare}
use Rattle.cca_base.specs.declared.codes.TheConstants.{ENDS_EARLY}
use Rattle.line_machine.specs.Lines.{lines_in, all_lines}
use Rattle.line_machine.specs.Next.{Next, GoesOn, Stops}
use Rattle.line_machine.specs.Runs.{TransitionByCode, IsText}
use Rattle.line_machine.specs.declared.machine.End.{End}
use Rattle.line_machine.specs.declared.machine.End.TheVariants.{Refused}
use Rattle.line_machine.specs.declared.machine.Machine.{Ghosts}
use Rattle.model_syntax.specs.Lines.{ModelSoFar, LineOutcome, Reads, Refuses, Finishes}
use Rattle.trace_text.specs.Json.{refusal_text}
use Rattle.model_form.specs.Acceptance.{Acceptance, AcceptedAs, RefusedFor, IsAcceptanceOf}
use Rattle.line_machine.specs.Completes.{Completes}
use Rattle.model_form.specs.Answers.{AnswersByAcceptance, AnswersByEnd, IsAnswer, PrintsBehind, TextsAreAnswers}
use Rattle.model_form.specs.FormMachine.{BeginsBy, FormAtScript, form_machine}
use Rattle.model_form.specs.FormStates.{FormState, InModel, behind_next, form_first, nothing_read}
use Rattle.model_form.specs.Limits.{line_code}
use Rattle.model_form.specs.ModelSteps.{StepsBy}
use Rattle.model_form.specs.ModelTexts.{ModelText, WholeModel, RefusedModel, LeadsByCode, LeadsAt, After, ReadsModel}
use Rattle.model_form.specs.declared.form.ModelForm.{Ghosts as FormGhosts}
use Rattle.model_form.proofs.Behind.{own_run, form_run}
use Rattle.line_machine.proofs.RunLines.{of_text, text_of, first_line, line_first, at_stop, stops, at_end, ends}

-- a text that was printed at an end, and nothing behind it
stopped_text : (e : End) (x rest text : List ℕ) (f : End) → x ≡ text → (f ≡ e) × (rest ≡ []) → (f ≡ e) × (x ++ rest ≡ text)
stopped_text e x rest text f h p = (p.0, rw (h, p.1) (append-nil text))

module _ {F B : Type 0} (form : FormGhosts F B) (m : Ghosts B) (f : F) where
  -- the lines of a model, and what they lead to, are this
  pub record SaysAs (s : ModelSoFar) (n : ℕ) (ls : List (List ℕ)) (e : End) (text : List ℕ) : Type 0 where
    pub end : ModelText
    pub reads : ReadsModel s n ls end
    pub is : AnswersByEnd (form.is_json f) (PrintsBehind form m f) end e text

  -- ---- from the machine to what the lines say

  -- what a line is refused with, or what it makes of the model
  pub line_by : (o : Option ℕ) (s : ModelSoFar) (n : ℕ) (l : List ℕ) (u : Next (FormState F B)) (x : List ℕ) → TransitionByCode (form_machine form m) o (InModel f s) n l u x
      → (out : LineOutcome) × LeadsByCode o s l out × StepsBy (form.is_json f) (InModel f) out s n (FormAtScript form m f s.model n u x) u x
  line_by (Some code) s n l u x takes = (Refuses code, refl, takes)
  line_by None s n l u x takes = takes

  -- a machine that was stopped by a refusal
  refused_run : (text : List ℕ) (n : ℕ) (ls : List (List ℕ)) (u : Next (FormState F B)) (x : List ℕ) (e : End) (rest : List ℕ) → (u ≡ Stops Refused) × (x ≡ text) → Completes (form_machine form m) u n ls e rest → (e ≡ Refused) × (x ++ rest ≡ text)
  refused_run text n ls u x e rest by c =
      stopped_text Refused x rest text e by.1 (at_stop (form_machine form m) Refused n ls e rest (subst (λ (z : Next (FormState F B)). Completes (form_machine form m) z n ls e rest) by.0 c))

  -- the line `script`
  begun_by : (a : Acceptance) (k : PlantModel) (n : ℕ) (ls : List (List ℕ)) (v : Next B) (x : List ℕ) (e : End) (rest : List ℕ) → BeginsBy form m f a k n v x → Completes (form_machine form m) (behind_next v) n ls e rest
      → AnswersByAcceptance (form.is_json f) (PrintsBehind form m f) a k n ls e (x ++ rest)
  begun_by (AcceptedAs b) k n ls v x e rest by c = record { next = v; first = x; begins = by; rest = rest; completes = own_run form m ls v n e rest c; parts = refl }
  begun_by (RefusedFor r) k n ls v x e rest by c = refused_run (refusal_text (form.is_json f) k n r) n ls (behind_next v) x e rest (ap (λ (z : Next B). behind_next {F = F} z) by.0, by.1) c

  scripted : (k : PlantModel) (n : ℕ) (ls : List (List ℕ)) (u : Next (FormState F B)) (x : List ℕ) (e : End) (rest : List ℕ) → FormAtScript form m f k n u x → Completes (form_machine form m) u n ls e rest
      → AnswersByEnd (form.is_json f) (PrintsBehind form m f) (WholeModel k n ls) e (x ++ rest)
  scripted k n ls u x e rest (v, (a, is, by), next) c =
      (a, is, begun_by a k n ls v x e rest by (subst (λ (z : Next (FormState F B)). Completes (form_machine form m) z n ls e rest) next c))

  line_says : (out : LineOutcome) (s : ModelSoFar) (n : ℕ) (l : List ℕ) (ls : List (List ℕ)) (u : Next (FormState F B)) (x : List ℕ) (e : End) (rest : List ℕ) → LeadsAt s (n + 1) l out
      → StepsBy (form.is_json f) (InModel f) out s (n + 1) (FormAtScript form m f s.model (n + 1) u x) u x → Completes (form_machine form m) u (n + 1) ls e rest
      → ((t : ModelSoFar) → Completes (form_machine form m) (GoesOn (InModel f t)) (n + 1) ls e rest → SaysAs t (n + 1) ls e rest) → SaysAs s n (l ∷ ls) e (x ++ rest)
  line_says (Reads t) s n l ls u x e rest leads by c on =
      let r = on t (subst (λ (v : Next (FormState F B)). Completes (form_machine form m) v (n + 1) ls e rest) by.0 c) in
      record { end = r.end; reads = (Reads t, leads, r.reads); is = subst (λ (z : List ℕ). AnswersByEnd (form.is_json f) (PrintsBehind form m f) r.end e (z ++ rest)) (sym by.1) r.is }
  line_says (Refuses code) s n l ls u x e rest leads by c on =
      record { end = RefusedModel s.model (n + 1) (bare code); reads = (Refuses code, leads, refl); is = refused_run (refusal_text (form.is_json f) s.model (n + 1) (bare code)) (n + 1) ls u x e rest by c }
  line_says Finishes s n l ls u x e rest leads by c on =
      record { end = WholeModel s.model (n + 1) ls; reads = (Finishes, leads, refl); is = scripted s.model (n + 1) ls u x e rest by c }

  -- what the machine prints is what the lines say
  says : (ls : List (List ℕ)) (s : ModelSoFar) (n : ℕ) (e : End) (text : List ℕ) → Completes (form_machine form m) (GoesOn (InModel f s)) n ls e text → SaysAs s n ls e text
  says [] s n e text c = record { end = RefusedModel s.model n (bare ENDS_EARLY); reads = refl; is = at_end (form_machine form m) (GoesOn (InModel f s)) n e text c }
  says (l ∷ ls) s n e text c =
      let t = first_line (form_machine form m) (InModel f s) n l ls e text c in
      let (out, leads, by) = line_by (line_code (n + 1) l) s (n + 1) l t.next t.first t.takes in
      subst (λ (z : List ℕ). SaysAs s n (l ∷ ls) e z) (sym t.parts)
      (line_says out s n l ls t.next t.first e t.rest leads by t.completes (λ v d. says ls v (n + 1) e t.rest d))

  -- ---- from what the lines say to the machine

  by_line : (o : Option ℕ) (s : ModelSoFar) (n : ℕ) (l : List ℕ) (out : LineOutcome) (u : Next (FormState F B)) (x : List ℕ) → LeadsByCode o s l out
      → StepsBy (form.is_json f) (InModel f) out s n (FormAtScript form m f s.model n u x) u x → TransitionByCode (form_machine form m) o (InModel f s) n l u x
  by_line (Some code) s n l out u x leads by = subst (λ (z : LineOutcome). StepsBy (form.is_json f) (InModel f) z s n (FormAtScript form m f s.model n u x) u x) leads by
  by_line None s n l out u x leads by = (out, leads, by)

  -- one line before a run
  comes_by : (s : ModelSoFar) (n : ℕ) (l : List ℕ) (ls : List (List ℕ)) (out : LineOutcome) (u : Next (FormState F B)) (x : List ℕ) (e : End) (rest text : List ℕ) → LeadsAt s (n + 1) l out
      → StepsBy (form.is_json f) (InModel f) out s (n + 1) (FormAtScript form m f s.model (n + 1) u x) u x → Completes (form_machine form m) u (n + 1) ls e rest → text ≡ x ++ rest
      → Completes (form_machine form m) (GoesOn (InModel f s)) n (l ∷ ls) e text
  comes_by s n l ls out u x e rest text leads by c is =
      line_first (form_machine form m) (InModel f s) n l ls e text record { next = u; first = x; takes = by_line (line_code (n + 1) l) s (n + 1) l out u x leads by; rest = rest; completes = c; parts = is }

  -- a refusal, and nothing behind it
  refused_comes : (s : ModelSoFar) (n : ℕ) (l : List ℕ) (ls : List (List ℕ)) (out : LineOutcome) (own e : End) (said text : List ℕ) → LeadsAt s (n + 1) l out → (e ≡ own) × (text ≡ said)
      → StepsBy {S = FormState F B} (form.is_json f) (InModel f) out s (n + 1) (FormAtScript form m f s.model (n + 1) (Stops own) said) (Stops own) said → Completes (form_machine form m) (GoesOn (InModel f s)) n (l ∷ ls) e text
  refused_comes s n l ls out own e said text leads is by =
      subst (λ (z : End). Completes (form_machine form m) (GoesOn (InModel f s)) n (l ∷ ls) z text) (sym is.0)
      (comes_by s n l ls out (Stops own) said own [] text leads by (stops (form_machine form m) own (n + 1) ls) (is.1 ∙ sym (append-nil said)))

  script_comes : (a : Acceptance) (s : ModelSoFar) (n : ℕ) (l : List ℕ) (ls : List (List ℕ)) (e : End) (text : List ℕ) → LeadsAt s (n + 1) l Finishes → IsAcceptanceOf s.model a
      → AnswersByAcceptance (form.is_json f) (PrintsBehind form m f) a s.model (n + 1) ls e text → Completes (form_machine form m) (GoesOn (InModel f s)) n (l ∷ ls) e text
  script_comes (AcceptedAs b) s n l ls e text leads is p =
      comes_by s n l ls Finishes (behind_next p.next) p.first e p.rest text leads (p.next, (AcceptedAs b, is, p.begins), refl) (form_run form m ls p.next (n + 1) e p.rest p.completes) p.parts
  script_comes (RefusedFor r) s n l ls e text leads is p =
      refused_comes s n l ls Finishes Refused e (refusal_text (form.is_json f) s.model (n + 1) r) text leads p (Stops Refused, (RefusedFor r, is, (refl, refl)), refl)

  line_comes : (out : LineOutcome) (s : ModelSoFar) (n : ℕ) (l : List ℕ) (ls : List (List ℕ)) (end : ModelText) (e : End) (text : List ℕ) → LeadsAt s (n + 1) l out
      → After out (λ t. ReadsModel t (n + 1) ls end) (end ≡ WholeModel s.model (n + 1) ls) (λ code. end ≡ RefusedModel s.model (n + 1) (bare code)) → AnswersByEnd (form.is_json f) (PrintsBehind form m f) end e text
      → ((t : ModelSoFar) → ReadsModel t (n + 1) ls end → Completes (form_machine form m) (GoesOn (InModel f t)) (n + 1) ls e text) → Completes (form_machine form m) (GoesOn (InModel f s)) n (l ∷ ls) e text
  line_comes (Reads t) s n l ls end e text leads after is on = comes_by s n l ls (Reads t) (GoesOn (InModel f t)) [] e text text leads (refl, refl) (on t after) refl
  line_comes (Refuses code) s n l ls end e text leads after is on =
      let stops : (e ≡ Refused) × (text ≡ refusal_text (form.is_json f) s.model (n + 1) (bare code)) = subst (λ (z : ModelText). AnswersByEnd (form.is_json f) (PrintsBehind form m f) z e text) after is in
      refused_comes s n l ls (Refuses code) Refused e (refusal_text (form.is_json f) s.model (n + 1) (bare code)) text leads stops (refl, refl)
  line_comes Finishes s n l ls end e text leads after is on =
      let (a, accepted, p) = subst (λ (z : ModelText). AnswersByEnd (form.is_json f) (PrintsBehind form m f) z e text) after is in
      script_comes a s n l ls e text leads accepted p

  comes : (ls : List (List ℕ)) (s : ModelSoFar) (n : ℕ) (end : ModelText) (e : End) (text : List ℕ) → ReadsModel s n ls end → AnswersByEnd (form.is_json f) (PrintsBehind form m f) end e text
      → Completes (form_machine form m) (GoesOn (InModel f s)) n ls e text
  comes [] s n end e text reads is =
      ends (form_machine form m) (GoesOn (InModel f s)) n e text (subst (λ (z : ModelText). AnswersByEnd (form.is_json f) (PrintsBehind form m f) z e text) reads is)
  comes (l ∷ ls) s n end e text (out, leads, after) is = line_comes out s n l ls end e text leads after is (λ t reads. comes ls t (n + 1) end e text reads is)

-- ---- for a whole input

module _ {F B : Type 0} (form : FormGhosts F B) (m : Ghosts B) where
  text_says : (f : F) (input : List ℕ) (e : End) (text : List ℕ) → IsText (form_machine form m) (form_first f) input e text → IsAnswer (form.is_json f) (PrintsBehind form m f) input e text
  text_says f input e text is =
      let r = says form m f (all_lines (lines_in input)) nothing_read 0 e text (of_text (form_machine form m) (form_first f) input e text is) in
      (r.end, r.reads, r.is)

  said_text : (f : F) (input : List ℕ) (e : End) (text : List ℕ) → IsAnswer (form.is_json f) (PrintsBehind form m f) input e text → IsText (form_machine form m) (form_first f) input e text
  said_text f input e text (end, reads, is) =
      text_of (form_machine form m) (form_first f) input e text (comes form m f (all_lines (lines_in input)) nothing_read 0 end e text reads is)

  pub texts_are_answers : TextsAreAnswers form m
  texts_are_answers = record { says = text_says; comes = said_text }

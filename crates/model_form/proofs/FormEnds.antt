-- How a form that reads a model ends and prints, by what its own words and its own machine do.
use Rattle.std.proofs.Common.{◌≡◌, ℕ, Bool, List, [], sym, ap, subst, ◌∙◌}
use Rattle.cca_base.specs.Accepted.{CompiledModel}
use Rattle.cca_base.specs.PlantModel.{PlantModel}
use Rattle.line_machine.specs.Next.{Next, GoesOn, Stops}
use Rattle.line_machine.specs.Runs.{IsQuiet}
use Rattle.line_machine.specs.declared.machine.End.{End}
use Rattle.line_machine.specs.declared.machine.End.TheVariants.{Refused}
use Rattle.line_machine.specs.declared.machine.Machine.{Ghosts}
use Rattle.line_machine.proofs.EndsSo.{same_end, not_end}
use Rattle.line_machine.proofs.RunsAreOne.{IsFixed}
use Rattle.model_syntax.specs.Lines.{ModelSoFar, LineOutcome, Reads, Refuses, Finishes}
use Rattle.model_form.specs.Acceptance.{Acceptance, AcceptedAs, RefusedFor}
use Rattle.model_form.specs.FormMachine.{BeginsBy, FormAtScript, FormSteps, FormCloses, form_machine}
use Rattle.model_form.specs.FormStates.{FormState, InModel, Behind, behind_next}
use Rattle.model_form.specs.ModelSteps.{StepsBy}
use Rattle.model_form.specs.OneStep.{AreOne, form_steps_are_one, form_closes_are_one}
use Rattle.model_form.specs.declared.form.ModelForm.{Ghosts as FormGhosts}

-- the program ends behind the model where the form's own machine does
own_end : {F B : Type 0} (v : Next B) (e : End) → ◌≡◌ {A = Next (FormState F B)} (Stops e) (behind_next v) → v ≡ Stops e
own_end (GoesOn b) e h = absurd (not_end e (Behind b) h)
own_end (Stops f) e h = ap (λ (z : End). Stops z) (sym (same_end e f h))

module _ {F B : Type 0} (form : FormGhosts F B) (m : Ghosts B) where
  -- ---- where it ends, it ends in a way of this kind

  module _ (P : End → Type 0) (refused : P Refused) where
    module _ (begins_so : (f : F) (b : CompiledModel) (n : ℕ) (e : End) (text : List ℕ) → form.begins f b n (Stops e) text → P e) where
      begun_so : (f : F) (a : Acceptance) (k : PlantModel) (n : ℕ) (v : Next B) (e : End) (text : List ℕ) → v ≡ Stops e → BeginsBy form m f a k n v text → P e
      begun_so f (AcceptedAs b) k n v e text is h = begins_so f b n e text (subst (λ (w : Next B). form.begins f b n w text) is h)
      begun_so f (RefusedFor r) k n v e text is h = subst P (same_end Refused e (sym h.0 ∙ is)) refused

      script_so : (f : F) (k : PlantModel) (n : ℕ) (e : End) (text : List ℕ) → FormAtScript form m f k n (Stops e) text → P e
      script_so f k n e text (v, (a, is, by), at) = begun_so f a k n v e text (own_end v e at) by

      line_so : (json : Bool) (f : F) (o : LineOutcome) (s : ModelSoFar) (n : ℕ) (e : End) (text : List ℕ) (at : Type 0) → (at → P e) → StepsBy {S = FormState F B} json (InModel f) o s n at (Stops e) text → P e
      line_so json f (Reads t) s n e text at script h = absurd (not_end e (InModel f t) h.0)
      line_so json f (Refuses code) s n e text at script h = subst P (same_end Refused e (sym h.0)) refused
      line_so json f Finishes s n e text at script h = script h

      pub form_steps_so : ((s : B) (n : ℕ) (l : List ℕ) (e : End) (text : List ℕ) → m.steps s n l (Stops e) text → P e)
          → (s : FormState F B) (n : ℕ) (l : List ℕ) (e : End) (text : List ℕ) → FormSteps form m s n l (Stops e) text → P e
      form_steps_so steps_so (InModel f s) n l e text (o, leads, h) = line_so (form.is_json f) f o s n e text _ (script_so f s.model n e text) h
      form_steps_so steps_so (Behind b) n l e text (v, h, at) = steps_so b n l e text (subst (λ (w : Next B). m.steps b n l w text) (own_end v e at) h)

    pub form_closes_so : ((s : B) (n : ℕ) (e : End) (text : List ℕ) → m.closes s n e text → P e) → (s : FormState F B) (n : ℕ) (e : End) (text : List ℕ) → FormCloses form m s n e text → P e
    form_closes_so closes_so (InModel f s) n e text h = subst P (sym h.0) refused
    form_closes_so closes_so (Behind b) n e text h = closes_so b n e text h

  -- ---- it prints only where it ends

  module _ (begins_quiet : (f : F) (b : CompiledModel) (n : ℕ) (t : B) (text : List ℕ) → form.begins f b n (GoesOn t) text → text ≡ []) where
    begun_quiet : (f : F) (a : Acceptance) (k : PlantModel) (n : ℕ) (v : Next B) (t : FormState F B) (text : List ℕ) → GoesOn t ≡ behind_next v → BeginsBy form m f a k n v text → text ≡ []
    begun_quiet f (AcceptedAs b) k n (GoesOn s) t text at h = begins_quiet f b n s text h
    begun_quiet f (AcceptedAs b) k n (Stops e) t text at h = absurd (not_end e t (sym at))
    begun_quiet f (RefusedFor r) k n (GoesOn s) t text at h = absurd (not_end Refused s (sym h.0))
    begun_quiet f (RefusedFor r) k n (Stops e) t text at h = absurd (not_end e t (sym at))

    line_quiet : (json : Bool) (f : F) (o : LineOutcome) (s : ModelSoFar) (n : ℕ) (t : FormState F B) (text : List ℕ) (at : Type 0) → (at → text ≡ []) → StepsBy json (InModel f) o s n at (GoesOn t) text → text ≡ []
    line_quiet json f (Reads r) s n t text at script h = h.1
    line_quiet json f (Refuses code) s n t text at script h = absurd (not_end Refused t (sym h.0))
    line_quiet json f Finishes s n t text at script h = script h

    own_quiet : IsQuiet m → (b : B) (n : ℕ) (l : List ℕ) (v : Next B) (t : FormState F B) (text : List ℕ) → GoesOn t ≡ behind_next v → m.steps b n l v text → text ≡ []
    own_quiet quiet b n l (GoesOn s) t text at h = quiet b n l s text h
    own_quiet quiet b n l (Stops e) t text at h = absurd (not_end e t (sym at))

    pub form_is_quiet : IsQuiet m → IsQuiet (form_machine form m)
    form_is_quiet quiet (InModel f s) n l t text (o, leads, h) = line_quiet (form.is_json f) f o s n t text _ (λ (v, (a, is, by), at). begun_quiet f a s.model n v t text at by) h
    form_is_quiet quiet (Behind b) n l t text (v, h, at) = own_quiet quiet b n l v t text at h

  -- ---- a state and a line lead to one state and one text

  pub form_is_fixed : ((f : F) (b : CompiledModel) (n : ℕ) (u v : Next B) (a c : List ℕ) → form.begins f b n u a → form.begins f b n v c → AreOne u v a c) → IsFixed m → IsFixed (form_machine form m)
  form_is_fixed begins_one fixed = record { steps = form_steps_are_one form m begins_one fixed.steps; closes = form_closes_are_one form m fixed.closes }

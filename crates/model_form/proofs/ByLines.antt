-- A form prints by lines where its own machine does: it prints nothing in its model.
use Rattle.std.specs.Prelude.{⊤}
use Rattle.std.proofs.Common.{◌≡◌, ◌⊎◌, ℕ, inl, inr, Bool, List, [], refl, sym, subst}
use Rattle.cca_base.specs.Accepted.{CompiledModel}
use Rattle.cca_base.specs.PlantModel.{PlantModel}
use Rattle.line_machine.specs.Fronts.{PrintsByLines}
use Rattle.line_machine.specs.Next.{Next, GoesOn, Stops}
use Rattle.line_machine.specs.Runs.{IsSure}
use Rattle.line_machine.specs.declared.machine.End.{End}
use Rattle.line_machine.specs.declared.machine.End.TheVariants.{Ended, Refused}
use Rattle.line_machine.specs.declared.machine.Machine.{Ghosts}
use Rattle.line_machine.proofs.EndsSo.{not_end}
use Rattle.line_machine.proofs.Fronts.{prints_by_lines}
use Rattle.model_syntax.specs.Lines.{ModelSoFar, LineOutcome, Reads, Refuses, Finishes}
use Rattle.model_form.specs.Acceptance.{Acceptance, AcceptedAs, RefusedFor}
use Rattle.model_form.specs.Answers.{Answer}
use Rattle.model_form.specs.FormMachine.{BeginsBy, FormAtScript, FormSteps, form_machine}
use Rattle.model_form.specs.FormMeaning.{FormKeeps, promises_of, reading}
use Rattle.model_form.specs.FormStates.{FormState, InModel, Behind, behind_next}
use Rattle.model_form.specs.ModelSteps.{StepsBy}
use Rattle.model_form.specs.ModelTexts.{ModelText}
use Rattle.model_form.specs.declared.form.ModelForm.{Ghosts as FormGhosts}

-- some states of the form's own machine have printed nothing, and are left for good; in all others the input may end, and nothing is printed for that
module _ {F B : Type 0} (form : FormGhosts F B) (m : Ghosts B) (IsQuietIn : B → Type 0) (closing : (b : B) → IsQuietIn b ⊎ ((n : ℕ) → m.closes b n Ended []))
    (begins_quiet : (f : F) (b : CompiledModel) (n : ℕ) (t : B) (text : List ℕ) → form.begins f b n (GoesOn t) text → IsQuietIn t → text ≡ [])
    (stays : (b : B) (n : ℕ) (l : List ℕ) (t : B) (text : List ℕ) → m.steps b n l (GoesOn t) text → IsQuietIn t → IsQuietIn b × (text ≡ [])) where
  -- the form is in its model, or in such a state
  abbrev InQuiet : FormState F B → Type 0
  InQuiet (InModel f s) = Unit {0}
  InQuiet (Behind b) = IsQuietIn b

  form_closing : (t : FormState F B) → InQuiet t ⊎ ((n : ℕ) → (form_machine form m).closes t n Ended [])
  form_closing (InModel f s) = inl tt
  form_closing (Behind b) = closing b

  same_behind : (b : B) (t : FormState F B) → GoesOn t ≡ GoesOn (Behind b) → InQuiet t → IsQuietIn b
  same_behind b t e quiet = let same : t ≡ Behind b = cc in subst InQuiet same quiet

  -- behind the model stands what its machine goes on in
  own_quiet : (Stays : List ℕ → Type 0) (v : Next B) (t : FormState F B) (text : List ℕ) → GoesOn t ≡ behind_next v → InQuiet t → ((b : B) → v ≡ GoesOn b → IsQuietIn b → Stays text) → Stays text
  own_quiet Stays (GoesOn b) t text at quiet own = own b refl (same_behind b t at quiet)
  own_quiet Stays (Stops e) t text at quiet own = absurd (not_end e t (sym at))

  begun_stays : (f : F) (a : Acceptance) (k : PlantModel) (n : ℕ) (b : B) (text : List ℕ) → BeginsBy form m f a k n (GoesOn b) text → IsQuietIn b → text ≡ []
  begun_stays f (AcceptedAs c) k n b text h quiet = begins_quiet f c n b text h quiet
  begun_stays f (RefusedFor r) k n b text h quiet = absurd (not_end Refused b (sym h.0))

  script_stays : (f : F) (k : PlantModel) (n : ℕ) (t : FormState F B) (text : List ℕ) → FormAtScript form m f k n (GoesOn t) text → InQuiet t → text ≡ []
  script_stays f k n t text (v, (a, is, by), at) quiet =
      own_quiet (λ (x : List ℕ). x ≡ []) v t text at quiet (λ b going own. begun_stays f a k n b text (subst (λ (w : Next B). BeginsBy form m f a k n w text) going by) own)

  line_stays : (json : Bool) (f : F) (o : LineOutcome) (s : ModelSoFar) (n : ℕ) (t : FormState F B) (text : List ℕ) (at : Type 0) → (at → text ≡ []) → StepsBy json (InModel f) o s n at (GoesOn t) text → text ≡ []
  line_stays json f (Reads r) s n t text at script h = h.1
  line_stays json f (Refuses code) s n t text at script h = absurd (not_end Refused t (sym h.0))
  line_stays json f Finishes s n t text at script h = script h

  form_stays : (s : FormState F B) (n : ℕ) (l : List ℕ) (t : FormState F B) (text : List ℕ) → FormSteps form m s n l (GoesOn t) text → InQuiet t → InQuiet s × (text ≡ [])
  form_stays (InModel f s) n l t text (o, leads, h) quiet = (tt, line_stays (form.is_json f) f o s n t text _ (λ at. script_stays f s.model n t text at quiet) h)
  form_stays (Behind b) n l t text (v, h, at) quiet = own_quiet (λ (x : List ℕ). IsQuietIn b × (x ≡ [])) v t text at quiet (λ c going own. stays b n l c text (subst (λ (w : Next B). m.steps b n l w text) going h) own)

  pub form_by_lines : (first : FormState F B) → PrintsByLines (form_machine form m) first
  form_by_lines = prints_by_lines (form_machine form m) InQuiet form_closing form_stays

-- the same where the input may end anywhere behind the model, and nothing is printed for that
pub ends_anywhere : {F B : Type 0} (form : FormGhosts F B) (m : Ghosts B) → ((b : B) (n : ℕ) → m.closes b n Ended []) → (first : FormState F B) → PrintsByLines (form_machine form m) first
ends_anywhere form m closes = form_by_lines form m (λ b. ⊥) (λ b. inr (closes b)) (λ f b n t text h never. absurd never) (λ b n l t text h never. absurd never)

-- a form that reads to the end keeps its promises, where a line ends it only as refused
pub reading_keeps : {S : Type 0} (m : Ghosts S) (first : S) (says : ModelText → End → List ℕ → Type 0) (whole refused : List ℕ → Type 0) (also : List ℕ → Answer → Type 0)
    → ((input : List ℕ) (a : Answer) → promises_of (reading m first says whole refused also ⊤ ⊥) input a → also input a) → PrintsByLines m first
    → ((bytes : List ℕ) (e : End) (text : List ℕ) → IsSure m first bytes (Stops e) text → e ≡ Refused) → FormKeeps (reading m first says whole refused also ⊤ ⊥)
reading_keeps m first says whole refused also keeps by_lines sure = record {
  also = keeps;
  by_lines = by_lines;
  to_end = λ reads bytes text h. (let never : Ended ≡ Refused = sure bytes Ended text h in absurd cc);
  silent = λ never. absurd never;
}

-- Where an accepted model was read, a form stands behind it, in a state of some kind that its lines keep.
use Rattle.std.proofs.Common.{◌≡◌, ℕ, ◌+◌, List, [], ◌∷◌, length, Option, Some, None, refl, sym, subst, ◌∙◌}
use Rattle.cca_base.specs.Accepted.{CompiledModel, IsCompiled}
use Rattle.cca_base.specs.PlantModel.{PlantModel}
use Rattle.cca_base.specs.declared.events.Refusal.{Refusal}
use Rattle.line_machine.specs.Lines.{lines_in}
use Rattle.line_machine.specs.Next.{Next, GoesOn, Stops}
use Rattle.line_machine.specs.Runs.{length_code, TransitionByCode, Runs, IsSure}
use Rattle.line_machine.specs.declared.machine.End.TheVariants.{Refused}
use Rattle.line_machine.specs.declared.machine.Machine.{Ghosts}
use Rattle.line_machine.proofs.EndsSo.{not_end}
use Rattle.line_machine.proofs.SureTextBegins.{goes_on}
use Rattle.model_syntax.specs.Lines.{ModelSoFar, LineOutcome, Reads, Refuses, Finishes}
use Rattle.model_form.specs.Acceptance.{Acceptance, AcceptedAs, RefusedFor, IsAcceptanceOf}
use Rattle.model_form.specs.FormMachine.{BeginsBy, FormAtScript, form_machine}
use Rattle.model_form.specs.FormStates.{FormState, InModel, Behind, behind_next, form_first, nothing_read}
use Rattle.model_form.specs.Limits.{line_code}
use Rattle.model_form.specs.ModelEnds.{HoldsModel, IsAcceptedEnd}
use Rattle.model_form.specs.ModelSteps.{StepsBy}
use Rattle.model_form.specs.ModelTexts.{ModelText, WholeModel, RefusedModel, LeadsAt, After, ReadsModel}
use Rattle.model_form.specs.OneStep.{acceptance_is_one}
use Rattle.model_form.specs.declared.form.ModelForm.{Ghosts as FormGhosts}
use Rattle.model_form.proofs.OneModelText.{leads_one}
use Rattle.model_form.proofs.TextsAreAnswers.{line_by}
use Rattle.cca_base.specs.Refusals.{bare}

module _ {F B : Type 0} (form : FormGhosts F B) (m : Ghosts B) (f : F) (P : B → Type 0)
    (begins_so : (b : CompiledModel) (n : ℕ) (t : B) (text : List ℕ) → IsCompiled b → form.begins f b n (GoesOn t) text → P t)
    (steps_so : (s : B) (n : ℕ) (l : List ℕ) (t : B) (text : List ℕ) → P s → m.steps s n l (GoesOn t) text → P t) where
  -- the form stands behind its model, in such a state
  abbrev pub IsBehind : FormState F B → Type 0
  IsBehind (InModel g s) = ⊥
  IsBehind (Behind b) = P b

  -- where it goes on, it stands there
  abbrev IfGoing : Next (FormState F B) → Type 0
  IfGoing u = (x : FormState F B) → u ≡ GoesOn x → IsBehind x

  same_state : (x y : FormState F B) → GoesOn x ≡ GoesOn y → y ≡ x
  same_state x y e = cc

  stopped : (u : Next (FormState F B)) → u ≡ Stops Refused → IfGoing u
  stopped u is x e = absurd (not_end Refused x (sym is ∙ e))

  going : (v : Next B) → ((t : B) → v ≡ GoesOn t → P t) → IfGoing (behind_next v)
  going (GoesOn t) so x e = subst IsBehind (sym (same_state (Behind t) x e)) (so t refl)
  going (Stops g) so x e = absurd (not_end g x e)

  -- a line behind the model
  step_so : (o : Option ℕ) (b : B) (n : ℕ) (l : List ℕ) (u : Next (FormState F B)) (x : List ℕ) → P b → TransitionByCode (form_machine form m) o (Behind b) n l u x → IfGoing u
  step_so (Some code) b n l u x so h = stopped u h.0
  step_so None b n l u x so (v, h, is) = subst IfGoing (sym is) (going v (λ t e. steps_so b n l t x so (subst (λ (w : Next B). m.steps b n l w x) e h)))

  -- lines behind the model
  later_so : (ls : List (List ℕ)) (u : Next (FormState F B)) (n : ℕ) (t : Next (FormState F B)) (text : List ℕ) → IfGoing u → Runs (form_machine form m) u n ls t text → IfGoing t
  later_so [] u n t text so r = subst IfGoing (sym r.0) so
  later_so (l ∷ ls) (Stops g) n t text so r = subst IfGoing (sym r.0) so
  later_so (l ∷ ls) (GoesOn (InModel g s)) n t text so r = absurd (so (InModel g s) refl)
  later_so (l ∷ ls) (GoesOn (Behind b)) n t text so (v, x, y, takes, rest, parts) =
      later_so ls v (n + 1) t y (step_so (length_code (m.limit_of b) (n + 1) (length l)) b (n + 1) l v x (so (Behind b) refl) takes) rest

  -- the line `script`
  begun_so : (a : Acceptance) (k : PlantModel) (b : CompiledModel) (n : ℕ) (v : Next B) (x : List ℕ) → IsAcceptanceOf k a → IsAcceptanceOf k (AcceptedAs b) → BeginsBy form m f a k n v x → IfGoing (behind_next v)
  begun_so (AcceptedAs c) k b n v x is accepted by = going v (λ t e. begins_so c n t x is.0 (subst (λ (w : Next B). form.begins f c n w x) e by))
  begun_so (RefusedFor r) k b n v x is accepted by =
      let one : RefusedFor r ≡ AcceptedAs b = acceptance_is_one k (RefusedFor r) (AcceptedAs b) is accepted in
      absurd cc

  script_so : (k : PlantModel) (b : CompiledModel) (n : ℕ) (u : Next (FormState F B)) (x : List ℕ) → IsAcceptanceOf k (AcceptedAs b) → FormAtScript form m f k n u x → IfGoing u
  script_so k b n u x accepted (v, (a, is, by), at) = subst IfGoing (sym at) (begun_so a k b n v x is accepted by)

  line_so : (o : LineOutcome) (s : ModelSoFar) (n : ℕ) (ls : List (List ℕ)) (end : ModelText) (u t : Next (FormState F B)) (x y : List ℕ)
      → StepsBy (form.is_json f) (InModel f) o s (n + 1) (FormAtScript form m f s.model (n + 1) u x) u x
      → After o (λ r. ReadsModel r (n + 1) ls end) (end ≡ WholeModel s.model (n + 1) ls) (λ code. end ≡ RefusedModel s.model (n + 1) (bare code)) → IsAcceptedEnd end
      → Runs (form_machine form m) u (n + 1) ls t y
      → ((r : ModelSoFar) → ReadsModel r (n + 1) ls end → Runs (form_machine form m) (GoesOn (InModel f r)) (n + 1) ls t y → IfGoing t) → IfGoing t
  line_so (Reads r) s n ls end u t x y by after accepted runs on = on r after (subst (λ (v : Next (FormState F B)). Runs (form_machine form m) v (n + 1) ls t y) by.0 runs)
  line_so (Refuses code) s n ls end u t x y by after accepted runs on = absurd (subst IsAcceptedEnd after accepted)
  line_so Finishes s n ls end u t x y by after accepted runs on =
      let is = subst IsAcceptedEnd after accepted in
      later_so ls u (n + 1) t y (script_so s.model is.0 (n + 1) u x is.1 by) runs

  -- all lines
  lines_so : (ls : List (List ℕ)) (s : ModelSoFar) (n : ℕ) (end : ModelText) (t : Next (FormState F B)) (text : List ℕ) → ReadsModel s n ls end → IsAcceptedEnd end → Runs (form_machine form m) (GoesOn (InModel f s)) n ls t text → IfGoing t
  lines_so [] s n end t text reads accepted r = absurd (subst IsAcceptedEnd reads accepted)
  lines_so (l ∷ ls) s n end t text (o, leads, after) accepted (u, x, y, takes, runs, parts) =
      let (p, leads', by) = line_by form m f (line_code (n + 1) l) s (n + 1) l u x takes in
      let same : p ≡ o = leads_one (line_code (n + 1) l) s l p o leads' leads in
      line_so o s n ls end u t x y (subst (λ (q : LineOutcome). StepsBy (form.is_json f) (InModel f) q s (n + 1) (FormAtScript form m f s.model (n + 1) u x) u x) same by) after accepted runs
      (λ r reads later. lines_so ls r (n + 1) end t y reads accepted later)

  -- bytes that hold the model
  pub held_so : (bytes : List ℕ) (x : FormState F B) (text : List ℕ) → HoldsModel bytes → IsSure (form_machine form m) (form_first f) bytes (GoesOn x) text → IsBehind x
  held_so bytes x text (end, reads, accepted) h =
      lines_so (lines_in bytes).whole nothing_read 0 end h.here h.lines reads accepted h.runs x
      (goes_on (form_machine form m) h.here (length (lines_in bytes).whole + 1) (lines_in bytes).tail x h.last h.tail).0

-- A state and a line lead to one state and one text, and so does the end of the input. The proofs stand here since a machine names them.
use Rattle.std.proofs.Common.{◌≡◌, ℕ, Bool, List, sym, ap, subst, ◌∙◌}
use Rattle.acceptance.proofs.OneRefusal.{there_is_one_refusal}
use Rattle.acceptance.proofs.RefusalSteps.{not_refused}
use Rattle.acceptance.specs.Refusals.{Refuses}
use Rattle.cca_base.specs.Accepted.{Accepted, CompiledModel, IsCompiled}
use Rattle.cca_base.specs.PlantModel.{PlantModel}
use Rattle.cca_base.specs.declared.events.Refusal.{Refusal}
use Rattle.cca_laws.proofs.OneCompiled.{one_compiled}
use Rattle.line_machine.specs.Next.{Next}
use Rattle.line_machine.specs.declared.machine.End.{End}
use Rattle.line_machine.specs.declared.machine.Machine.{Ghosts}
use Rattle.model_syntax.proofs.OneWay.{lead_one_way}
use Rattle.model_syntax.specs.Lines.{ModelSoFar, LineOutcome, Reads, Refuses as RefusesWith, Finishes}
use Rattle.model_form.specs.Acceptance.{Acceptance, AcceptedAs, RefusedFor, IsCompiledFrom, IsAcceptanceOf}
use Rattle.model_form.specs.FormMachine.{BeginsBy, AtScript, FormAtScript, FormSteps, FormCloses}
use Rattle.model_form.specs.FormStates.{FormState, InModel, Behind, behind_next}
use Rattle.model_form.specs.ModelSteps.{GoesOnIn, StepsBy, ModelSteps}
use Rattle.model_form.specs.declared.form.ModelForm.{Ghosts as FormGhosts}

-- ---- one thing becomes of a model

same_parts : (a b : CompiledModel) → a.model ≡ b.model → a.ways ≡ b.ways → a.order ≡ b.order → a.bounds ≡ b.bounds → a ≡ b
same_parts a b m w o p = λ i. record { model = m i; ways = w i; order = o i; bounds = p i }

-- what is compiled from one model is one
compiled_once : (m : PlantModel) (a b : CompiledModel) → IsCompiledFrom m a → IsCompiledFrom m b → a ≡ b
compiled_once m a b h k =
    let model : a.model ≡ b.model = h.1 ∙ sym k.1 in
    let moved : IsCompiled (record { model = b.model; ways = a.ways; order = a.order; bounds = a.bounds }) = subst (λ (x : PlantModel). IsCompiled (record { model = x; ways = a.ways; order = a.order; bounds = a.bounds })) model h.0 in
    let same = one_compiled b.model a.ways b.ways a.order b.order a.bounds b.bounds moved k.0 in
    same_parts a b model same.0 same.1 same.2

-- a model that is compiled is not refused
never_both : (m : PlantModel) (b : CompiledModel) (r : Refusal) → IsCompiledFrom m b → Refuses m r → ⊥
never_both m b r h refuses = not_refused m r refuses (subst Accepted h.1 h.0.accepted)

pub acceptance_is_one : (m : PlantModel) (v w : Acceptance) → IsAcceptanceOf m v → IsAcceptanceOf m w → v ≡ w
acceptance_is_one m (AcceptedAs a) (AcceptedAs b) h k = ap (λ (x : CompiledModel). AcceptedAs x) (compiled_once m a b h k)
acceptance_is_one m (AcceptedAs a) (RefusedFor r) h k = absurd (never_both m a r h k)
acceptance_is_one m (RefusedFor r) (AcceptedAs b) h k = absurd (never_both m b r k h)
acceptance_is_one m (RefusedFor r) (RefusedFor q) h k = ap (λ (x : Refusal). RefusedFor x) (there_is_one_refusal m r q h k)

-- ---- lines of a model

-- two answers are one
abbrev pub AreOne : {A B : Type 0} → A → A → B → B → Type 0
AreOne u v a c = (u ≡ v) × (a ≡ c)

-- a machine goes on in one state, and prints nothing
pub goes_on_one_way : {S : Type 0} {s : S} {u v : Next S} {a c : List ℕ} → GoesOnIn s u a → GoesOnIn s v c → AreOne u v a c
goes_on_one_way h k = (h.0 ∙ sym k.0, h.1 ∙ sym k.1)

module _ {S : Type 0} (json : Bool) (stage : ModelSoFar → S) (at_script : PlantModel → ℕ → Next S → List ℕ → Type 0) where
  outcome_one : (o : LineOutcome) (s : ModelSoFar) (n : ℕ) (u v : Next S) (a c : List ℕ) → (at_script s.model n u a → at_script s.model n v c → AreOne u v a c) →
      StepsBy json stage o s n (at_script s.model n u a) u a → StepsBy json stage o s n (at_script s.model n v c) v c → AreOne u v a c
  outcome_one (Reads t) s n u v a c one h k = (h.0 ∙ sym k.0, h.1 ∙ sym k.1)
  outcome_one (RefusesWith code) s n u v a c one h k = (h.0 ∙ sym k.0, h.1 ∙ sym k.1)
  outcome_one Finishes s n u v a c one h k = one h k

  pub model_steps_are_one : (s : ModelSoFar) (n : ℕ) (l : List ℕ) (u v : Next S) (a c : List ℕ) → (at_script s.model n u a → at_script s.model n v c → AreOne u v a c) →
      ModelSteps json stage at_script s n l u a → ModelSteps json stage at_script s n l v c → AreOne u v a c
  model_steps_are_one s n l u v a c one (o, leads, h) (p, leads', k) =
      outcome_one p s n u v a c one (subst (λ (x : LineOutcome). StepsBy json stage x s n (at_script s.model n u a) u a) (lead_one_way s l o p leads leads') h) k

-- ---- the machine of a form

module _ {F B : Type 0} (form : FormGhosts F B) (m : Ghosts B) where
  -- what the form's own machine leads to is one for the whole form
  lifted : (p q : Next B) (u v : Next (FormState F B)) (a c : List ℕ) → u ≡ behind_next p → v ≡ behind_next q → AreOne p q a c → AreOne u v a c
  lifted p q u v a c h k e = (h ∙ ap (λ (z : Next B). behind_next {F = F} z) e.0 ∙ sym k, e.1)

  module _ (begins_one : (f : F) (b : CompiledModel) (n : ℕ) (u v : Next B) (a c : List ℕ) → form.begins f b n u a → form.begins f b n v c → AreOne u v a c) where
    begins_by_one : (f : F) (v : Acceptance) (k : PlantModel) (n : ℕ) (x y : Next B) (a c : List ℕ) → BeginsBy form m f v k n x a → BeginsBy form m f v k n y c → AreOne x y a c
    begins_by_one f (AcceptedAs b) k n x y a c h j = begins_one f b n x y a c h j
    begins_by_one f (RefusedFor r) k n x y a c h j = (h.0 ∙ sym j.0, h.1 ∙ sym j.1)

    script_one : (f : F) (k : PlantModel) (n : ℕ) (x y : Next B) (a c : List ℕ) → AtScript form m f k n x a → AtScript form m f k n y c → AreOne x y a c
    script_one f k n x y a c (v, is, h) (w, is', j) =
        begins_by_one f w k n x y a c (subst (λ (z : Acceptance). BeginsBy form m f z k n x a) (acceptance_is_one k v w is is') h) j

    form_script_one : (f : F) (k : PlantModel) (n : ℕ) (u v : Next (FormState F B)) (a c : List ℕ) → FormAtScript form m f k n u a → FormAtScript form m f k n v c → AreOne u v a c
    form_script_one f k n u v a c (p, h, i) (q, j, e) = lifted p q u v a c i e (script_one f k n p q a c h j)

    pub form_steps_are_one : ((s : B) (n : ℕ) (l : List ℕ) (u v : Next B) (a c : List ℕ) → m.steps s n l u a → m.steps s n l v c → AreOne u v a c)
        → (s : FormState F B) (n : ℕ) (l : List ℕ) (u v : Next (FormState F B)) (a c : List ℕ) → FormSteps form m s n l u a → FormSteps form m s n l v c → AreOne u v a c
    form_steps_are_one steps_one (InModel f s) n l u v a c h k = model_steps_are_one (form.is_json f) (InModel f) (FormAtScript form m f) s n l u v a c (form_script_one f s.model n u v a c) h k
    form_steps_are_one steps_one (Behind b) n l u v a c (p, h, i) (q, k, j) = lifted p q u v a c i j (steps_one b n l p q a c h k)

  pub form_closes_are_one : ((s : B) (n : ℕ) (e f : End) (a c : List ℕ) → m.closes s n e a → m.closes s n f c → AreOne e f a c)
      → (s : FormState F B) (n : ℕ) (e f : End) (a c : List ℕ) → FormCloses form m s n e a → FormCloses form m s n f c → AreOne e f a c
  form_closes_are_one closes_one (InModel x s) n e f a c h k = (h.0 ∙ sym k.0, h.1 ∙ sym k.1)
  form_closes_are_one closes_one (Behind b) n e f a c h k = closes_one b n e f a c h k

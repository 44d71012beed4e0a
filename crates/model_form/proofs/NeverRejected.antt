-- A form is never rejected where neither its own words nor its own machine ever are.
use Rattle.std.proofs.Common.{◌≡◌, ◌⊎◌, ℕ, inl, inr, List, refl, sym, ◌∙◌}
use Rattle.cca_base.specs.Accepted.{CompiledModel}
use Rattle.line_machine.specs.Next.{Stops}
use Rattle.line_machine.specs.Runs.{IsSure, IsText}
use Rattle.line_machine.specs.declared.machine.End.{End}
use Rattle.line_machine.specs.declared.machine.End.TheVariants.{Ended, Rejected, Refused}
use Rattle.line_machine.specs.declared.machine.Machine.{Ghosts}
use Rattle.line_machine.proofs.EndsSo.{sure_so, text_so}
use Rattle.model_form.specs.FormMachine.{FormSteps, FormCloses, form_machine}
use Rattle.model_form.specs.FormStates.{FormState}
use Rattle.model_form.specs.declared.form.ModelForm.{Ghosts as FormGhosts}
use Rattle.model_form.proofs.FormEnds.{form_steps_so, form_closes_so}

abbrev pub IsNotRejected : End → Type 0
IsNotRejected e = e ≡ Rejected → ⊥

pub refused_not : (e : End) → e ≡ Refused → IsNotRejected e
refused_not e h k = let never : Refused ≡ Rejected = sym h ∙ k in absurd cc

pub ended_not : (e : End) → e ≡ Ended → IsNotRejected e
ended_not e h k = let never : Ended ≡ Rejected = sym h ∙ k in absurd cc

module _ {F B : Type 0} (form : FormGhosts F B) (m : Ghosts B)
    (begins_not : (f : F) (b : CompiledModel) (n : ℕ) (e : End) (text : List ℕ) → form.begins f b n (Stops e) text → IsNotRejected e)
    (steps_not : (s : B) (n : ℕ) (l : List ℕ) (e : End) (text : List ℕ) → m.steps s n l (Stops e) text → IsNotRejected e)
    (closes_not : (s : B) (n : ℕ) (e : End) (text : List ℕ) → m.closes s n e text → IsNotRejected e) where
  form_steps_not : (s : FormState F B) (n : ℕ) (l : List ℕ) (e : End) (text : List ℕ) → FormSteps form m s n l (Stops e) text → IsNotRejected e
  form_steps_not = form_steps_so form m IsNotRejected (refused_not Refused refl) begins_not steps_not

  form_closes_not : (s : FormState F B) (n : ℕ) (e : End) (text : List ℕ) → FormCloses form m s n e text → IsNotRejected e
  form_closes_not = form_closes_so form m IsNotRejected (refused_not Refused refl) closes_not

  pub never_rejected : (first : FormState F B) (bytes text : List ℕ) → IsText (form_machine form m) first bytes Rejected text ⊎ IsSure (form_machine form m) first bytes (Stops Rejected) text → ⊥
  never_rejected first bytes text (inl is) = text_so (form_machine form m) IsNotRejected (refused_not Refused refl) form_steps_not form_closes_not first bytes Rejected text is refl
  never_rejected first bytes text (inr sure) = sure_so (form_machine form m) IsNotRejected (refused_not Refused refl) form_steps_not first bytes Rejected text sure refl

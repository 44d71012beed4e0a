-- A form that ends behind a line only where that is refused, and else at the end of its input.
use Rattle.std.proofs.Common.{◌≡◌, ◌⊎◌, ℕ, List, refl}
use Rattle.cca_base.specs.Accepted.{CompiledModel}
use Rattle.line_machine.specs.Next.{Stops}
use Rattle.line_machine.specs.Runs.{IsSure, IsText}
use Rattle.line_machine.specs.declared.machine.End.{End}
use Rattle.line_machine.specs.declared.machine.End.TheVariants.{Ended, Rejected, Refused}
use Rattle.line_machine.specs.declared.machine.Machine.{Ghosts}
use Rattle.line_machine.proofs.EndsSo.{not_end, sure_so}
use Rattle.line_machine.proofs.RunsAreOne.{IsFixed}
use Rattle.model_form.specs.FormMachine.{FormSteps, form_machine}
use Rattle.model_form.specs.FormStates.{FormState}
use Rattle.model_form.specs.LineMachines.{form_of_lines}
use Rattle.model_form.specs.ModelSteps.{GoesOnIn}
use Rattle.model_form.specs.OneStep.{goes_on_one_way}
use Rattle.model_form.specs.declared.form.ModelForm.{Ghosts as FormGhosts}
use Rattle.model_form.specs.declared.lines.OfLines.{OfLines}
use Rattle.model_form.proofs.FormEnds.{form_is_fixed, form_steps_so}
use Rattle.model_form.proofs.NeverRejected.{IsNotRejected, refused_not, ended_not, never_rejected}

abbrev pub IsRefused : End → Type 0
IsRefused e = e ≡ Refused

module _ {F B : Type 0} (form : FormGhosts F B) (m : Ghosts B)
    (begins_refused : (f : F) (b : CompiledModel) (n : ℕ) (e : End) (text : List ℕ) → form.begins f b n (Stops e) text → IsRefused e)
    (steps_refused : (s : B) (n : ℕ) (l : List ℕ) (e : End) (text : List ℕ) → m.steps s n l (Stops e) text → IsRefused e) where
  form_refused : (s : FormState F B) (n : ℕ) (l : List ℕ) (e : End) (text : List ℕ) → FormSteps form m s n l (Stops e) text → IsRefused e
  form_refused = form_steps_so form m IsRefused refl begins_refused steps_refused

  -- what is sure before the end of the input is a refusal
  pub sure_refused : (first : FormState F B) (bytes : List ℕ) (e : End) (text : List ℕ) → IsSure (form_machine form m) first bytes (Stops e) text → IsRefused e
  sure_refused = sure_so (form_machine form m) IsRefused refl form_refused

  pub never_rejects : ((s : B) (n : ℕ) (e : End) (text : List ℕ) → m.closes s n e text → e ≡ Ended) → (first : FormState F B) (bytes text : List ℕ)
      → IsText (form_machine form m) first bytes Rejected text ⊎ IsSure (form_machine form m) first bytes (Stops Rejected) text → ⊥
  never_rejects ends =
      never_rejected form m (λ f b n e text h. refused_not e (begins_refused f b n e text h)) (λ s n l e text h. refused_not e (steps_refused s n l e text h)) (λ s n e text h. ended_not e (ends s n e text h))

-- ---- a form of lines

module _ {S : Type 0} (first : CompiledModel → S) (m : Ghosts S) where
  -- what is sure of it before the end of the input is a refusal, it never rejects, and a state and a line lead to one state and one text
  pub record EndsByRefusal : Type 0 where
    pub sure : (s : FormState OfLines S) (bytes : List ℕ) (e : End) (text : List ℕ) → IsSure (form_machine (form_of_lines first) m) s bytes (Stops e) text → IsRefused e
    pub never : (s : FormState OfLines S) (bytes text : List ℕ) → IsText (form_machine (form_of_lines first) m) s bytes Rejected text ⊎ IsSure (form_machine (form_of_lines first) m) s bytes (Stops Rejected) text → ⊥
    pub fixed : IsFixed (form_machine (form_of_lines first) m)

  begins_refused : (f : OfLines) (b : CompiledModel) (n : ℕ) (e : End) (text : List ℕ) → GoesOnIn (first b) (Stops e) text → IsRefused e
  begins_refused f b n e text h = absurd (not_end e (first b) h.0)

  pub ends_by_refusal : ((s : S) (n : ℕ) (l : List ℕ) (e : End) (text : List ℕ) → m.steps s n l (Stops e) text → IsRefused e) → ((s : S) (n : ℕ) (e : End) (text : List ℕ) → m.closes s n e text → IsNotRejected e) → IsFixed m → EndsByRefusal
  ends_by_refusal steps closes fixed = record {
    sure = sure_refused (form_of_lines first) m begins_refused steps;
    never = never_rejected (form_of_lines first) m (λ f b n e text h. refused_not e (begins_refused f b n e text h)) (λ s n l e text h. refused_not e (steps s n l e text h)) closes;
    fixed = form_is_fixed (form_of_lines first) m (λ f b n u v a c. goes_on_one_way) fixed;
  }

-- A form that ends behind a line only where that is refused, and is never rejected.
use Rattle.std.proofs.Common.{◌≡◌, ℕ, Bool, List, Option, Some, None, Result, Ok, Err, sym, ap, subst}
use Rattle.cca_base.specs.Accepted.{CompiledModel}
use Rattle.cca_base.specs.PlantModel.{PlantModel}
use Rattle.line_machine.specs.Next.{Next, Stops}
use Rattle.line_machine.specs.declared.machine.End.{End}
use Rattle.line_machine.specs.declared.machine.End.TheVariants.{Refused}
use Rattle.line_machine.proofs.EndsSo.{same_end, not_end}
use Rattle.line_machine.proofs.RunsAreOne.{IsFixed}
use Rattle.model_form.specs.Answers.{Answer}
use Rattle.model_form.proofs.NeverRejected.{IsNotRejected}
use Rattle.model_form.proofs.RefusedOnly.{EndsByRefusal, IsRefused, ends_by_refusal}
use Rattle.line_forms.specs.Asked.{Effect, Sets, Asks, Denies, ServesEffect}
use Rattle.line_forms.specs.LinesMachine.{DoesBy, lines_machine, line_steps_are_one, line_closes_are_one}
use Rattle.line_forms.specs.LineMeaning.{LineMeaning}

-- what an item comes to ends the program only where its line is refused
pub effect_refused : {L S T X : Type 0} (json : Bool) (m : PlantModel) (at : T → S → L) (Shows : T → X → T → List ℕ → Type 0) (f : Effect S X) (t : T) (n : ℕ) (e : End) (text : List ℕ)
    → ServesEffect json m at Shows f t n (Stops e) text → IsRefused e
effect_refused json m at Shows (Sets y) t n e text h = absurd (not_end e (at t y) h.0)
effect_refused json m at Shows (Asks x y) t n e text (v, shows, next) = absurd (not_end e (at v y) next)
effect_refused json m at Shows (Denies code) t n e text h = same_end e Refused h.0

module _ {L I : Type 0} (form : LineMeaning L I) where
  -- a state and a line lead to one state and one text
  pub lines_fixed : ((x : L) (l : List ℕ) (a b : Result (Option I) ℕ) → form.said x l a → form.said x l b → a ≡ b)
      → ((i : I) (x : L) (l : List ℕ) (n : ℕ) (u v : Next L) (a c : List ℕ) → form.said x l (Ok (Some i)) → form.serves i x n u a → form.serves i x n v c → (u ≡ v) × (a ≡ c)) → IsFixed (lines_machine form)
  lines_fixed said_one serves_one = record { steps = line_steps_are_one form said_one serves_one; closes = line_closes_are_one form }

  module _ (serves_refused : (i : I) (x : L) (n : ℕ) (e : End) (text : List ℕ) → form.serves i x n (Stops e) text → IsRefused e) where
    does_refused : (said : Result (Option I) ℕ) (x : L) (n : ℕ) (e : End) (text : List ℕ) → DoesBy form said x n (Stops e) text → IsRefused e
    does_refused (Err code) x n e text h = same_end e Refused h.0
    does_refused (Ok None) x n e text h = absurd (not_end e x h.0)
    does_refused (Ok (Some i)) x n e text h = serves_refused i x n e text h

    pub lines_end_by_refusal : (first : CompiledModel → L) → ((x : L) (n : ℕ) → IsNotRejected (form.closing x n).end) → IsFixed (lines_machine form) → EndsByRefusal first (lines_machine form)
    lines_end_by_refusal first closing fixed =
        ends_by_refusal first (lines_machine form) (λ x n l e text (said, is, h). does_refused said x n e text h)
        (λ x n e text h. subst IsNotRejected (sym (ap (λ (a : Answer). a.end) h)) (closing x n)) fixed

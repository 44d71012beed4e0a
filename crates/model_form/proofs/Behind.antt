-- Behind its model a form runs as its own machine does.
use Rattle.std.proofs.Common.{◌≡◌, ℕ, ◌+◌, List, [], ◌∷◌, length, Option, Some, None, refl, sym, subst}
use Rattle.line_machine.specs.Next.{Next, GoesOn, Stops}
use Rattle.line_machine.specs.Runs.{length_code, TransitionByCode, Closes}
use Rattle.line_machine.specs.declared.machine.End.{End}
use Rattle.line_machine.specs.declared.machine.End.TheVariants.{Refused}
use Rattle.line_machine.specs.declared.machine.Machine.{Ghosts}
use Rattle.line_machine.specs.Completes.{Completes}
use Rattle.model_form.specs.FormMachine.{form_machine}
use Rattle.model_form.specs.FormStates.{FormState, Behind, behind_next}
use Rattle.model_form.specs.declared.form.ModelForm.{Ghosts as FormGhosts}
use Rattle.line_machine.proofs.RunLines.{first_line, line_first, at_stop, stops, at_end, ends}

module _ {F B : Type 0} (form : FormGhosts F B) (m : Ghosts B) where
  own_closes : (u : Next B) (n : ℕ) (e : End) (text : List ℕ) → Closes (form_machine form m) (behind_next u) n e text → Closes m u n e text
  own_closes (GoesOn b) n e text h = h
  own_closes (Stops f) n e text h = h

  form_closes : (u : Next B) (n : ℕ) (e : End) (text : List ℕ) → Closes m u n e text → Closes (form_machine form m) (behind_next u) n e text
  form_closes (GoesOn b) n e text h = h
  form_closes (Stops f) n e text h = h

  own_by : (o : Option ℕ) (b : B) (n : ℕ) (l : List ℕ) (u : Next (FormState F B)) (x : List ℕ) → TransitionByCode (form_machine form m) o (Behind b) n l u x → (v : Next B) × (u ≡ behind_next v) × TransitionByCode m o b n l v x
  own_by (Some code) b n l u x h = (Stops Refused, h.0, (refl, h.1))
  own_by None b n l u x (v, h, is) = (v, is, h)

  form_by : (o : Option ℕ) (b : B) (n : ℕ) (l : List ℕ) (v : Next B) (x : List ℕ) → TransitionByCode m o b n l v x → TransitionByCode (form_machine form m) o (Behind b) n l (behind_next v) x
  form_by (Some code) b n l v x h = (subst (λ (w : Next B). behind_next {F = F} v ≡ behind_next w) h.0 refl, h.1)
  form_by None b n l v x h = (v, h, refl)

  -- the form's run is the machine's
  pub own_run : (ls : List (List ℕ)) (u : Next B) (n : ℕ) (e : End) (text : List ℕ) → Completes (form_machine form m) (behind_next u) n ls e text → Completes m u n ls e text
  own_run [] u n e text c = ends m u n e text (own_closes u n e text (at_end (form_machine form m) (behind_next u) n e text c))
  own_run (l ∷ ls) (Stops f) n e text c =
      let p = at_stop (form_machine form m) f n (l ∷ ls) e text c in
      subst (λ (z : End). Completes m (Stops f) n (l ∷ ls) z text) (sym p.0) (subst (λ (z : List ℕ). Completes m (Stops f) n (l ∷ ls) f z) (sym p.1) (stops m f n (l ∷ ls)))
  own_run (l ∷ ls) (GoesOn b) n e text c =
      let t = first_line (form_machine form m) (Behind b) n l ls e text c in
      let (v, is, takes) = own_by (length_code (m.limit_of b) (n + 1) (length l)) b (n + 1) l t.next t.first t.takes in
      line_first m b n l ls e text record {
        next = v;
        first = t.first;
        takes = takes;
        rest = t.rest;
        completes = own_run ls v (n + 1) e t.rest (subst (λ (z : Next (FormState F B)). Completes (form_machine form m) z (n + 1) ls e t.rest) is t.completes);
        parts = t.parts;
      }

  -- the machine's run is the form's
  pub form_run : (ls : List (List ℕ)) (u : Next B) (n : ℕ) (e : End) (text : List ℕ) → Completes m u n ls e text → Completes (form_machine form m) (behind_next u) n ls e text
  form_run [] u n e text c = ends (form_machine form m) (behind_next u) n e text (form_closes u n e text (at_end m u n e text c))
  form_run (l ∷ ls) (Stops f) n e text c =
      let p = at_stop m f n (l ∷ ls) e text c in
      subst (λ (z : End). Completes (form_machine form m) (Stops f) n (l ∷ ls) z text) (sym p.0)
      (subst (λ (z : List ℕ). Completes (form_machine form m) (Stops f) n (l ∷ ls) f z) (sym p.1) (stops (form_machine form m) f n (l ∷ ls)))
  form_run (l ∷ ls) (GoesOn b) n e text c =
      let t = first_line m b n l ls e text c in
      line_first (form_machine form m) (Behind b) n l ls e text record {
        next = behind_next t.next;
        first = t.first;
        takes = form_by (length_code (m.limit_of b) (n + 1) (length l)) b (n + 1) l t.next t.first t.takes;
        rest = t.rest;
        completes = form_run ls t.next (n + 1) e t.rest t.completes;
        parts = t.parts;
      }

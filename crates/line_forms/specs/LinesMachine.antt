-- The machine of a form by its lines. The proofs stand here since the machine names them.
use Rattle.std.proofs.Common.{◌≡◌, ℕ, List, Option, Some, None, Result, Ok, Err, sym, ap, subst, ◌∙◌}
use Rattle.cca_base.specs.Refusals.{bare}
use Rattle.line_machine.specs.Next.{Next}
use Rattle.line_machine.specs.declared.machine.End.{End}
use Rattle.line_machine.specs.declared.machine.Machine.{Ghosts}
use Rattle.model_form.specs.Answers.{Answer, answer}
use Rattle.model_form.specs.ModelSteps.{GoesOnIn, RefusesLine}
use Rattle.trace_text.specs.Json.{refusal_text}
use Rattle.line_forms.specs.LineMeaning.{LineMeaning}

module _ {L I : Type 0} (form : LineMeaning L I) where
  -- a line by what it says: nothing, an item that is served, or a refusal
  abbrev pub DoesBy : Result (Option I) ℕ → L → ℕ → Next L → List ℕ → Type 0
  DoesBy (Err code) x n u text = RefusesLine (form.is_json x) (form.model_of x) n (bare code) u text
  DoesBy (Ok None) x n u text = GoesOnIn x u text
  DoesBy (Ok (Some item)) x n u text = form.serves item x n u text

  -- what a line leads to
  abbrev pub LineSteps : L → ℕ → List ℕ → Next L → List ℕ → Type 0
  LineSteps x n line u text = (said : Result (Option I) ℕ) × form.said x line said × DoesBy said x n u text

  -- what the end of the input leads to
  abbrev pub LineCloses : L → ℕ → End → List ℕ → Type 0
  LineCloses x n e text = answer e text ≡ form.closing x n

  -- the machine of the lines
  abbrev pub lines_machine : Ghosts L
  lines_machine = record {
    limit_of = form.limit_of;
    refusal = λ x n code. refusal_text (form.is_json x) (form.model_of x) n (bare code);
    steps = LineSteps;
    closes = LineCloses;
    awaits = form.awaits;
    steady = form.steady;
  }

  -- ---- a state and a line lead to one state and one text

  module _ (said_one : (x : L) (l : List ℕ) (a b : Result (Option I) ℕ) → form.said x l a → form.said x l b → a ≡ b)
      (serves_one : (i : I) (x : L) (l : List ℕ) (n : ℕ) (u v : Next L) (a c : List ℕ) → form.said x l (Ok (Some i)) → form.serves i x n u a → form.serves i x n v c → (u ≡ v) × (a ≡ c)) where
    does_one : (said : Result (Option I) ℕ) (x : L) (l : List ℕ) (n : ℕ) (u v : Next L) (a c : List ℕ) → form.said x l said → DoesBy said x n u a → DoesBy said x n v c → (u ≡ v) × (a ≡ c)
    does_one (Err code) x l n u v a c says h k = (h.0 ∙ sym k.0, h.1 ∙ sym k.1)
    does_one (Ok None) x l n u v a c says h k = (h.0 ∙ sym k.0, h.1 ∙ sym k.1)
    does_one (Ok (Some i)) x l n u v a c says h k = serves_one i x l n u v a c says h k

    pub line_steps_are_one : (x : L) (n : ℕ) (l : List ℕ) (u v : Next L) (a c : List ℕ) → LineSteps x n l u a → LineSteps x n l v c → (u ≡ v) × (a ≡ c)
    line_steps_are_one x n l u v a c (said, is, h) (other, was, k) =
        does_one other x l n u v a c was (subst (λ (z : Result (Option I) ℕ). DoesBy z x n u a) (said_one x l said other is was) h) k

  pub line_closes_are_one : (x : L) (n : ℕ) (e f : End) (a c : List ℕ) → LineCloses x n e a → LineCloses x n f c → (e ≡ f) × (a ≡ c)
  line_closes_are_one x n e f a c h k =
      let same = h ∙ sym k in
      (ap (λ (z : Answer). z.end) same, ap (λ (z : Answer). z.text) same)

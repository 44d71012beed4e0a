-- Lines ask for one thing, and end in one way.
use Rattle.std.proofs.Common.{◌≡◌, ℕ, ◌+◌, List, [], ◌∷◌, Option, Some, None, Result, Ok, Err, sym, subst, ◌∙◌}
use Rattle.model_form.specs.Limits.{line_code}
use Rattle.model_form.specs.LinesEnds.{Asked, SaysByCode, ReadsBy, ReadsLines}

module _ {S R X : Type 0} (IsSaid : S → List ℕ → Result (Option R) ℕ → Type 0) (Follows : R → S → ℕ → (S → Asked X → Type 0) → Asked X → Type 0)
    (one_said : (x : S) (l : List ℕ) (a b : Result (Option R) ℕ) → IsSaid x l a → IsSaid x l b → a ≡ b)
    (one_follows : (n : ℕ) (Later : S → Asked X → Type 0) → ((y : S) (a b : Asked X) → Later y a → Later y b → a ≡ b) → (r : R) (x : S) (a b : Asked X) → Follows r x n Later a → Follows r x n Later b → a ≡ b) where
  said_one : (o : Option ℕ) (x : S) (l : List ℕ) (a b : Result (Option R) ℕ) → SaysByCode IsSaid Follows o x l a → SaysByCode IsSaid Follows o x l b → a ≡ b
  said_one (Some code) x l a b h k = h ∙ sym k
  said_one None x l a b h k = one_said x l a b h k

  line_one : (n : ℕ) (Later : S → Asked X → Type 0) → ((y : S) (a b : Asked X) → Later y a → Later y b → a ≡ b) → (said : Result (Option R) ℕ) (x : S) (a b : Asked X)
      → ReadsBy IsSaid Follows said x n Later a → ReadsBy IsSaid Follows said x n Later b → a ≡ b
  line_one n Later one (Err code) x a b h k = h ∙ sym k
  line_one n Later one (Ok None) x a b h k = one x a b h k
  line_one n Later one (Ok (Some request)) x a b h k = one_follows n Later one request x a b h k

  pub one_reading : (ls : List (List ℕ)) (x : S) (n : ℕ) (a b : Asked X) → ReadsLines IsSaid Follows x n ls a → ReadsLines IsSaid Follows x n ls b → a ≡ b
  one_reading [] x n a b h k = h ∙ sym k
  one_reading (l ∷ ls) x n a b (said, says, h) (other, says', k) =
      let same = said_one (line_code (n + 1) l) x l said other says says' in
      line_one (n + 1) (λ y rest. ReadsLines IsSaid Follows y (n + 1) ls rest) (λ y c d. one_reading ls y (n + 1) c d) other x a b
      (subst (λ (z : Result (Option R) ℕ). ReadsBy IsSaid Follows z x (n + 1) (λ y rest. ReadsLines IsSaid Follows y (n + 1) ls rest) a) same h) k

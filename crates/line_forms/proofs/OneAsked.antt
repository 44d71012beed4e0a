-- Lines ask for one thing, where a request comes to one thing.
use Rattle.std.proofs.Common.{◌≡◌, ℕ, List, Option, Result, sym, ap, subst, ◌∙◌}
use Rattle.model_form.specs.LinesEnds.{Asked, ReadsLines, with_item}
use Rattle.model_form.proofs.OneReading.{one_reading}
use Rattle.line_forms.specs.Asked.{Effect, Sets, Asks, Denies, FollowsEffect}

module _ {R S X : Type 0} (IsSaid : S → List ℕ → Result (Option R) ℕ → Type 0) (Follows : R → S → ℕ → (S → Asked X → Type 0) → Asked X → Type 0) (Leads : R → S → Effect S X → Type 0)
    (leads : (r : R) (s : S) (n : ℕ) (Later : S → Asked X → Type 0) (a : Asked X) → Follows r s n Later a → (f : Effect S X) × Leads r s f × FollowsEffect f n Later a)
    (one_said : (s : S) (l : List ℕ) (a b : Result (Option R) ℕ) → IsSaid s l a → IsSaid s l b → a ≡ b) (one_effect : (r : R) (s : S) (f g : Effect S X) → Leads r s f → Leads r s g → f ≡ g) where
  effect_one : (n : ℕ) (Later : S → Asked X → Type 0) → ((y : S) (a b : Asked X) → Later y a → Later y b → a ≡ b) → (f : Effect S X) (a b : Asked X) → FollowsEffect f n Later a → FollowsEffect f n Later b → a ≡ b
  effect_one n Later one (Sets y) a b h k = one y a b h k
  effect_one n Later one (Asks x y) a b (rest, later, is) (other, later', was) = is ∙ ap (with_item x) (one y rest other later later') ∙ sym was
  effect_one n Later one (Denies code) a b h k = h ∙ sym k

  follows_one : (n : ℕ) (Later : S → Asked X → Type 0) → ((y : S) (a b : Asked X) → Later y a → Later y b → a ≡ b) → (r : R) (s : S) (a b : Asked X) → Follows r s n Later a → Follows r s n Later b → a ≡ b
  follows_one n Later one r s a b h k =
      let (f, at, by) = leads r s n Later a h in
      let (g, also, too) = leads r s n Later b k in
      effect_one n Later one g a b (subst (λ (z : Effect S X). FollowsEffect z n Later a) (one_effect r s f g at also) by) too

  pub asked_one : (ls : List (List ℕ)) (s : S) (n : ℕ) (a b : Asked X) → ReadsLines IsSaid Follows s n ls a → ReadsLines IsSaid Follows s n ls b → a ≡ b
  asked_one = one_reading IsSaid Follows one_said follows_one

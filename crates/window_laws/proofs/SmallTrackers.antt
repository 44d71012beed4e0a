-- The examples of a tracker's words.
use Rattle.std.proofs.Common.{◌≡◌, ◌<◌, ℕ, zero, suc, List, [], ◌∷◌, Some, refl, sym, ◌∙◌, arith}
use Rattle.std.specs.List.{slice_get}
use Rattle.std.proofs.lemmas.Option.{same_Some, none-some}
use Rattle.window_laws.specs.Examples.{Examples}

alike : (old new s t : List ℕ) → old ≡ new → Some old ≡ Some s → Some new ≡ Some t → s ≡ t
alike old new s t same e f = sym (same_Some old s e) ∙ same ∙ same_Some new t f

pub examples : Examples
examples = record {
  oldest_first = refl;
  first_component = refl;
  seven = refl;
  seven_anchor = refl;
  eight = refl;
  eight_anchor = refl;
  differs = (1, 0 ∷ [], 1 ∷ [], refl, refl, refl, (λ e. absurd (cc)), before);
  only_new = one_new;
  only_old = one_old;
}
  where
    before : (j : ℕ) (u v : List ℕ) → j < 1 → slice_get ((0 ∷ []) ∷ (0 ∷ []) ∷ (0 ∷ []) ∷ []) j ≡ Some u → slice_get ((0 ∷ []) ∷ (1 ∷ []) ∷ (1 ∷ []) ∷ (0 ∷ []) ∷ []) j ≡ Some v → u ≡ v
    before zero u v h e f = alike (0 ∷ []) (0 ∷ []) u v refl e f
    before (suc j) u v h e f = absurd (omega arith)

    one_new : (i : ℕ) (s t : List ℕ) → slice_get ((0 ∷ []) ∷ []) i ≡ Some s → slice_get ((0 ∷ []) ∷ (1 ∷ []) ∷ []) i ≡ Some t → s ≡ t
    one_new zero s t e f = alike (0 ∷ []) (0 ∷ []) s t refl e f
    one_new (suc i) s t e f = absurd (none-some s e)

    one_old : (i : ℕ) (s t : List ℕ) → slice_get ((0 ∷ []) ∷ (1 ∷ []) ∷ []) i ≡ Some s → slice_get ((0 ∷ []) ∷ []) i ≡ Some t → s ≡ t
    one_old zero s t e f = alike (0 ∷ []) (0 ∷ []) s t refl e f
    one_old (suc i) s t e f = absurd (none-some t f)

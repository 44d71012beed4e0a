-- Lists without a repetition that have the same elements.
use Rattle.std.proofs.Common.{◌≡◌, ◌≢◌, ◌<◌, ◌+◌, ◌-◌, ℕ, List, [], ◌∷◌, length, get_or, AllPairs, Contains, inl, inr, refl, sym, ap, ◌∙◌, arith}
use Rattle.std.specs.Prelude.{remove}
use Rattle.std.specs.List.Sorted.{IsPermutation}
use Rattle.std.proofs.lemmas.Bool.{cases_lt, cases_order}
use Rattle.std.proofs.lemmas.List.{get_or_default}
use Rattle.std.proofs.lemmas.List.Edits.{length-remove, get_or-remove_below, get_or-remove_above}
use Rattle.std.proofs.lemmas.List.Elements.{All-contains}
use Rattle.std.proofs.lemmas.List.Quantifiers.{all_pairs_remove}
use Rattle.std.proofs.lemmas.List.Sorted.{IsPermutation-refl, IsPermutation-cons, IsPermutation-trans, IsPermutation-remove}
use Rattle.list_laws.proofs.Pairwise.{AllPairs-head, AllPairs-tail}
use Rattle.list_laws.proofs.Members.{contains_cases, contains_here, contains_there, contains_none}

abbrev AllDiffer : {X : Type 0} → List X → Type 0
AllDiffer xs = AllPairs (λ x y. x ≢ y) xs

-- what stands at two places is two things
places_differ : {X : Type 0} (xs : List X) → AllDiffer xs → (i j : ℕ) (d : X) → i < length xs → j < length xs → (i ≡ j → ⊥) → get_or xs i d ≡ get_or xs j d → ⊥
places_differ xs h i j d within_i within_j ne same = elim (cases_order i j) [
  | inl e ↦ ne e
  | inr (inl below) ↦ h i j d below within_j same
  | inr (inr above) ↦ h j i d above within_i (sym same)
]

-- what is left beside the element at a place was there, and is another
from_remove : {X : Type 0} (xs : List X) (i : ℕ) (y z : X) → AllDiffer xs → i < length xs → get_or xs i y ≡ y → Contains (remove xs i) z → Contains xs z × (z ≡ y → ⊥)
from_remove xs i y z h within here (k, lt, e) = elim (cases_lt k i) [
  | inl below ↦
      let there : get_or xs k z ≡ z = sym (get_or-remove_below xs i z k below within) ∙ e in
      ((k, omega (arith, below, within), there), λ same. differ k (omega (arith, below, within)) (λ eq. omega (arith, eq, below)) there same)
  | inr above ↦
      let more : k + 1 < length xs = omega (arith, lt, length-remove xs i within) in
      let there : get_or xs (k + 1) z ≡ z = sym (get_or-remove_above xs i z k above within) ∙ e in
      ((k + 1, more, there), λ same. differ (k + 1) more (λ eq. omega (arith, eq, above)) there same)
] where
  differ : (j : ℕ) → j < length xs → (j ≡ i → ⊥) → get_or xs j z ≡ z → z ≡ y → ⊥
  differ j inside ne there same = places_differ xs h j i z inside within ne (there ∙ same ∙ sym here ∙ get_or_default xs i y z within)

-- what is another element is left
to_remove : {X : Type 0} (xs : List X) (i : ℕ) (y z : X) → i < length xs → get_or xs i y ≡ y → Contains xs z → (z ≡ y → ⊥) → Contains (remove xs i) z
to_remove xs i y z within here (j, lt, e) ne = elim (cases_order j i) [
  | inl eq ↦ absurd (ne (sym e ∙ ap (λ n. get_or xs n z) eq ∙ get_or_default xs i z y within ∙ here))
  | inr (inl below) ↦ (j, omega (arith, lt, below, length-remove xs i within), get_or-remove_below xs i z j below within ∙ e)
  | inr (inr above) ↦
      let back : j - 1 + 1 ≡ j = omega (arith, above) in
      (j - 1, omega (arith, lt, above, length-remove xs i within), get_or-remove_above xs i z (j - 1) (omega (arith, above)) within ∙ ap (λ n. get_or xs n z) back ∙ e)
]

pub same_permutation : {X : Type 0} (xs ys : List X) → AllDiffer xs → AllDiffer ys → ((z : X) → Contains xs z → Contains ys z) → ((z : X) → Contains ys z → Contains xs z) → IsPermutation xs ys
same_permutation [] [] h k to back = IsPermutation-refl []
same_permutation (x ∷ xs) [] h k to back = absurd (contains_none x (to x (contains_here x x xs refl)))
same_permutation {X = X} xs (y ∷ ys) h k to back =
    let place = back y (contains_here y y ys refl) in
    let left : List X = remove xs place.0 in
    let after : (z : X) → Contains ys z → (z ≡ y → ⊥) = λ z among same. All-contains (λ w. y ≢ w) ys z (AllPairs-head (λ a b. a ≢ b) y ys k) among (sym same) in
    let rest : IsPermutation left ys =
    same_permutation left ys (all_pairs_remove (λ a b. a ≢ b) xs place.0 place.1 h) (AllPairs-tail (λ a b. a ≢ b) y ys k)
    (λ z among.
    let was = from_remove xs place.0 y z h place.1 place.2 among in
    elim (contains_cases y z ys (to z was.0)) [ inl e ↦ absurd (was.1 (sym e)) | inr there ↦ there ])
    (λ z among. to_remove xs place.0 y z place.1 place.2 (back z (contains_there y z ys among)) (after z among))
    in
    IsPermutation-trans xs (y ∷ left) (y ∷ ys) (IsPermutation-remove xs place.0 y place.1 (sym place.2)) (IsPermutation-cons y left ys rest)

-- Rising lists of exactly the numbers of a kind.
use Rattle.std.proofs.Common.{◌≡◌, ◌<◌, ◌+◌, ℕ, List, [], ◌∷◌, ◌++◌, ◌⊎◌, length, get_or, slice_index, AllPairs, Contains, refl, sym, subst, ◌∙◌, inl, inr, arith}
use Rattle.std.proofs.lemmas.Bool.{cases_order}
use Rattle.std.proofs.lemmas.List.{get_or_default}
use Rattle.std.proofs.lemmas.List.Elements.{Contains-append_left, Contains-push, Contains-push_cases}
use Rattle.std.proofs.lemmas.List.Quantifiers.{all_pairs_push}
use Rattle.cca_base.specs.Relations.{AreExactly}
use Rattle.reversibility.specs.Levels.{IsAmong}

module _ (P : ℕ → Type 0) where
  module _ (xs : List ℕ) (h : AreExactly P xs) where
    pub exactly_here : (k : ℕ) → k < length xs → P (slice_index xs k)
    exactly_here k within = (h.each (slice_index xs k)).0 (k, within, get_or_default xs k (slice_index xs k) 0 within)

    pub exactly_place : (i : ℕ) → P i → (k : ℕ) × (k < length xs) × (slice_index xs k ≡ i)
    exactly_place i is = let among = (h.each i).1 is in (among.0, among.1, get_or_default xs among.0 0 i among.1 ∙ among.2)

    -- what comes before an entry stands at an earlier place
    pub exactly_earlier : (k i : ℕ) → k < length xs → P i → i < slice_index xs k → (j : ℕ) × (j < k) × (slice_index xs j ≡ i)
    exactly_earlier k i within is lt =
        let there = exactly_place i is in
        elim (cases_order there.0 k) [
          | inl e ↦ absurd (omega (arith, lt, sym there.2 ∙ subst (λ z. slice_index xs there.0 ≡ slice_index xs z) e refl))
          | inr (inl before) ↦ (there.0, before, there.2)
          | inr (inr after) ↦
              let rise : slice_index xs k < slice_index xs there.0 = h.rising k there.0 0 after there.1 in
              absurd (omega (arith, lt, rise, there.2))
        ]

-- those at the first places that are of a kind
module _ (Q : ℕ → Type 0) (xs : List ℕ) (rising : AllPairs (λ u v. u < v) xs) (k : ℕ) (ys : List ℕ) (h : AreExactly (λ i. IsAmong xs k i × Q i) ys) where
  one_more : (i : ℕ) → IsAmong xs k i → IsAmong xs (k + 1) i
  one_more i among = (among.0, omega (arith, among.1), among.2)

  before_or : (i : ℕ) → IsAmong xs (k + 1) i → IsAmong xs k i ⊎ (slice_index xs k ≡ i)
  before_or i among = elim (cases_order among.0 k) [
    | inl e ↦ inr (subst (λ z. slice_index xs z ≡ i) e among.2)
    | inr (inl lt) ↦ inl (among.0, lt, among.2)
    | inr (inr gt) ↦ absurd (omega (arith, gt, among.1))
  ]

  pub some_no : (Q (slice_index xs k) → ⊥) → AreExactly (λ i. IsAmong xs (k + 1) i × Q i) ys
  some_no other = record {
    rising = h.rising;
    each = λ i. (
      (λ there. let is = (h.each i).0 there in (one_more i is.0, is.1)),
      (λ is. elim (before_or i is.0) [
        | inl before ↦ (h.each i).1 (before, is.1)
        | inr here ↦ absurd (other (subst Q (sym here) is.1))
      ]),
    );
  }

  pub some_yes : k < length xs → Q (slice_index xs k) → AreExactly (λ i. IsAmong xs (k + 1) i × Q i) (ys ++ slice_index xs k ∷ [])
  some_yes within here = record {
    rising = all_pairs_push (λ u v. u < v) ys (slice_index xs k) h.rising (λ j d lt.
        let is = (h.each (get_or ys j d)).0 (j, lt, get_or_default ys j (get_or ys j d) d lt) in
        let less : slice_index xs is.0.0 < slice_index xs k = rising is.0.0 k 0 is.0.1 within in
        subst (λ z. z < slice_index xs k) is.0.2 less);
    each = λ i. (
      (λ there. elim (Contains-push_cases ys (slice_index xs k) i there) [
        | inl before ↦ let is = (h.each i).0 before in (one_more i is.0, is.1)
        | inr e ↦ subst (λ z. IsAmong xs (k + 1) z × Q z) e ((k, omega arith, refl), here)
      ]),
      (λ is. elim (before_or i is.0) [
        | inl before ↦ Contains-append_left ys (slice_index xs k ∷ []) i ((h.each i).1 (before, is.1))
        | inr e ↦ subst (Contains (ys ++ slice_index xs k ∷ [])) e (Contains-push ys (slice_index xs k))
      ]),
    );
  }

-- where the first places have all of the kind, they are exactly those of the kind
pub all_among : (Q : ℕ → Type 0) (xs : List ℕ) (k : ℕ) (ys : List ℕ) → AreExactly (λ i. IsAmong xs k i × Q i) ys → ((i : ℕ) → Q i → IsAmong xs k i) → AreExactly Q ys
all_among Q xs k ys h all = record {
  rising = h.rising;
  each = λ i. ((λ there. ((h.each i).0 there).1), (λ is. (h.each i).1 (all i is, is)));
}

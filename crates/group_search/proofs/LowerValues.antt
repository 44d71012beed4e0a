-- Values that are lowered place by place.
use Rattle.std.proofs.Common.{◌≡◌, ◌⊎◌, inl, inr, ℕ, ◌+◌, ◌<◌, List, [], ◌∷◌, ◌++◌, length, take, get_or, refl, sym, ap, subst, ◌∙◌, arith}
use Rattle.std.specs.Ordering.{nat_cmp, ordering_then}
use Rattle.std.specs.Cmp.Lexicographic.{slice_cmp}
use Rattle.std.proofs.lemmas.List.{take_more, length-take-le}
use Rattle.std.specs.declared.cmp.Ordering.{Ordering}
use Rattle.std.specs.declared.cmp.Ordering.TheVariants.{Less, Equal}
use Rattle.list_laws.proofs.Orders.{nat_cmp-same, then_cases, less_cmp, three_ways}
use Rattle.cca_base.specs.Estimates.{IsEarlier}
use Rattle.group_search.specs.Lowered.{IsLowered}

then_first : (a b : Ordering) → a ≡ Less → ordering_then a b ≡ Less
then_first a b e = ap (λ o. ordering_then o b) e

then_second : (a b : Ordering) → a ≡ Equal → b ≡ Less → ordering_then a b ≡ Less
then_second a b e f = ap (λ o. ordering_then o b) e ∙ f

-- a difference stays where both go on
earlier_more : (s t : List ℕ) (x y : ℕ) → length s ≡ length t → IsEarlier s t → IsEarlier (s ++ x ∷ []) (t ++ y ∷ [])
earlier_more [] [] x y l e = absurd (cc)
earlier_more [] (b ∷ t) x y l e = absurd (omega arith)
earlier_more (a ∷ s) [] x y l e = absurd (omega arith)
earlier_more (a ∷ s) (b ∷ t) x y l e = elim (then_cases (nat_cmp a b) (slice_cmp nat_cmp s t) e) [
  | inl here ↦ then_first (nat_cmp a b) (slice_cmp nat_cmp (s ++ x ∷ []) (t ++ y ∷ [])) here
  | inr later ↦ then_second (nat_cmp a b) (slice_cmp nat_cmp (s ++ x ∷ []) (t ++ y ∷ [])) later.0 (earlier_more s t x y (omega arith) later.1)
]

-- the first difference decides
earlier_here : (s : List ℕ) (x y : ℕ) → x < y → IsEarlier (s ++ x ∷ []) (s ++ y ∷ [])
earlier_here [] x y h = then_first (nat_cmp x y) (slice_cmp nat_cmp [] []) (less_cmp x y h)
earlier_here (a ∷ s) x y h = then_second (nat_cmp a a) (slice_cmp nat_cmp (s ++ x ∷ []) (s ++ y ∷ [])) (nat_cmp-same a a refl) (earlier_here s x y h)

pub lowering_improves : (Want : List ℕ → Type 0) (c : ℕ) (s t : List ℕ) → IsLowered Want c s → Want t → take c t ≡ take c s → IsLowered Want c t
lowering_improves Want c s t l want e = record {
  wanted = want;
  first = λ u other. elim (l.first u other) [
    | inl same ↦ inl (same ∙ sym e)
    | inr later ↦ inr (subst (λ z. IsEarlier z (take c u)) (sym e) later)
  ];
}

fixed_at : (c : ℕ) (s t : List ℕ) → length s ≡ length t → c < length s → (take c t ≡ take c s) ⊎ IsEarlier (take c s) (take c t)
    → (take c t ≡ take c s → get_or t c 0 < get_or s c 0 → ⊥) → (take (c + 1) t ≡ take (c + 1) s) ⊎ IsEarlier (take (c + 1) s) (take (c + 1) t)
fixed_at c s t long within (inl same) none = elim (three_ways (get_or t c 0) (get_or s c 0)) [
  | inl less ↦ absurd (none same less)
  | inr (inl equal) ↦ inl (take_more t c 0 (omega arith) ∙ ap (λ z. z ++ get_or t c 0 ∷ []) same ∙ ap (λ v. take c s ++ v ∷ []) equal ∙ sym (take_more s c 0 within))
  | inr (inr more) ↦ inr
      (subst (λ z. IsEarlier z (take (c + 1) t)) (sym (take_more s c 0 within))
      (subst (λ z. IsEarlier (take c s ++ get_or s c 0 ∷ []) z) (sym (take_more t c 0 (omega arith) ∙ ap (λ z. z ++ get_or t c 0 ∷ []) same))
      (earlier_here (take c s) (get_or s c 0) (get_or t c 0) more)))
]
fixed_at c s t long within (inr later) none = inr
    (subst (λ z. IsEarlier z (take (c + 1) t)) (sym (take_more s c 0 within))
    (subst (λ z. IsEarlier (take c s ++ get_or s c 0 ∷ []) z) (sym (take_more t c 0 (omega arith)))
    (earlier_more (take c s) (take c t) (get_or s c 0) (get_or t c 0) (length-take-le c s (omega arith) ∙ sym (length-take-le c t (omega arith))) later)))

pub lowering_fixes : (Want : List ℕ → Type 0) (n c : ℕ) (s : List ℕ) → ((t : List ℕ) → Want t → length t ≡ n) → c < n → IsLowered Want c s
    → ((t : List ℕ) → Want t → take c t ≡ take c s → get_or t c 0 < get_or s c 0 → ⊥) → IsLowered Want (c + 1) s
lowering_fixes Want n c s long within l none = record {
  wanted = l.wanted;
  first = λ t want. fixed_at c s t (long s l.wanted ∙ sym (long t want)) (omega (arith, long s l.wanted)) (l.first t want) (none t want);
}

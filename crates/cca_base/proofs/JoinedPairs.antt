-- Two lists of pairs that name different things, in one list and sorted, are their union.
use Rattle.std.proofs.Common.{◌≡◌, ◌==◌, Bool, List, ◌++◌, get_or, All, Contains, inl, inr, sym, ◌∙◌, arith}
use Rattle.std.specs.List.Sorted.{IsPermutation, IsNonDecreasingBy}
use Rattle.std.proofs.lemmas.Bool.{cases_eq, eqb-false, eq-eqb, ne_eqb}
use Rattle.std.proofs.lemmas.List.Elements.{Contains-append_cases, Contains-append_left, Contains-append_right}
use Rattle.std.proofs.lemmas.List.Sorted.{Contains-permutation, IsPermutation-sym}
use Rattle.std.proofs.lemmas.Map.Keys.{apart_from_distinct, IsDistinct-from_apart, IsDistinct-IsPermutation}
use Rattle.cca_base.specs.declared.cube.Pair.{Pair}
use Rattle.cca_base.specs.Cube.{IsCube, IsRising, IsUnion, Lacks}
use Rattle.cca_base.proofs.CubeLaws.{both_cube, rising_once}

abbrev same_item : Pair → Pair → Bool
same_item p q = p.item == q.item

same_both_ways : (p q : Pair) → same_item p q ≡ same_item q p
same_both_ways p q = elim (cases_eq p.item q.item) [
  | inl e ↦ eq-eqb p.item q.item e ∙ sym (eq-eqb q.item p.item (sym e))
  | inr ne ↦ ne_eqb p.item q.item ne ∙ sym (ne_eqb q.item p.item (λ e. ne (sym e)))
]

-- pairs of different items, in an order in which items do not fall, rise
sorted_rises : (xs ys : List Pair) → IsCube xs → IsPermutation xs ys → IsNonDecreasingBy (λ (p : Pair). p.item) ys → IsRising ys
sorted_rises xs ys cube same up i j d before within =
    let distinct = IsDistinct-IsPermutation same_item same_both_ways xs ys same
    (IsDistinct-from_apart same_item xs (λ i j d before within. ne_eqb (get_or xs i d).item (get_or xs j d).item (cube i j d before within))) in
    let apart = eqb-false (get_or ys i d).item (get_or ys j d).item (apart_from_distinct same_item ys i j d distinct before within) in
    let low = up i j d (omega (arith, before)) within in
    omega (arith, apart, low)

pub sorted_union : (seen pairs both : List Pair) → IsRising seen → IsCube pairs → All (λ p. Lacks p.item seen) pairs
    → IsPermutation (seen ++ pairs) both → IsNonDecreasingBy (λ (p : Pair). p.item) both → IsUnion (Contains seen) (Contains pairs) both
sorted_union seen pairs both rising once new same up = record {
  rising = sorted_rises (seen ++ pairs) both (both_cube seen pairs (rising_once seen rising) once new) same up;
  each = λ p. (
    (λ among. Contains-append_cases seen pairs p (Contains-permutation both (seen ++ pairs) p (IsPermutation-sym (seen ++ pairs) both same) among)),
    (λ either. Contains-permutation (seen ++ pairs) both p same (elim either [
      | inl before ↦ Contains-append_left seen pairs p before
      | inr after ↦ Contains-append_right seen pairs p after
    ])),
  );
}

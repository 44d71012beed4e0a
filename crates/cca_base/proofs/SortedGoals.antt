-- Pairs that are put into the order of their components.
use Rattle.std.proofs.Common.{◌≡◌, ◌≢◌, ◌<◌, ◌≤◌, ◌+◌, ◌==◌, ℕ, not, List, [], ◌∷◌, ◌++◌, length, get_or, take, drop, All, AllPairs, Contains, filter, inl, inr, refl, sym, ap, subst, ◌∙◌, arith, slice_get, Some}
use Rattle.std.proofs.lemmas.Bool.{cases_order, eq-eqb, not_from_true, false≢true}
use Rattle.std.proofs.lemmas.List.{append-nil, append_assoc, take_more, take_all, drop_more, drop_all, get_or_default}
use Rattle.std.proofs.lemmas.List.Elements.{All-contains, All-nil, All-push, Contains-push, Contains-push_cases, Contains-append_left}
use Rattle.std.proofs.lemmas.List.Kept.{AllPairs-cons}
use Rattle.std.proofs.lemmas.List.Sorted.{All-permutation, IsPermutation-sym}
use Rattle.list_laws.proofs.Members.{all_from, contains_cases, contains_none, from_filter}
use Rattle.cca_base.proofs.PathLaws.{all_taken, below_contains}
use Rattle.cca_base.specs.Cube.{IsCube, Lacks}
use Rattle.cca_base.specs.Orders.{AreInOrder, IsSorted}
use Rattle.cca_base.specs.Relations.{numbers_below, TakesEffectsFirstBy}
use Rattle.cca_base.specs.declared.cube.Pair.{Pair}
use Rattle.cca_base.specs.State.{Extends}
use Rattle.list_laws.proofs.Permutations.{same_permutation}

-- of one component there is one pair
one_pair : (pairs : List Pair) (p q : Pair) → IsCube pairs → Contains pairs p → Contains pairs q → p.item ≡ q.item → p ≡ q
one_pair pairs p q once (i, in_i, at_i) (j, in_j, at_j) same = elim (cases_order i j) [
  | inl e ↦ sym at_i ∙ ap (λ n. get_or pairs n p) e ∙ get_or_default pairs j p q in_j ∙ at_j
  | inr (inl below) ↦ absurd (once i j p below in_j (ap (λ (r : Pair). r.item) at_i ∙ same ∙ sym (ap (λ (r : Pair). r.item) (get_or_default pairs j p q in_j ∙ at_j))))
  | inr (inr above) ↦ absurd (once j i q above in_i (ap (λ (r : Pair). r.item) at_j ∙ sym same ∙ sym (ap (λ (r : Pair). r.item) (get_or_default pairs i q p in_i ∙ at_i))))
]

-- pairs in the order in which all are taken are of different components, which remained
sorted_differ : (R : ℕ → ℕ → Type 0) (remaining order : List ℕ) → TakesEffectsFirstBy R remaining order → (ps : List Pair) → AreInOrder order ps
    → IsCube ps × ((p : Pair) → Contains ps p → Contains remaining p.item)
sorted_differ R remaining [] h ps in_order =
    (subst IsCube (sym in_order) (λ i j d lt within. absurd (omega arith)), λ p among. absurd (contains_none p (subst (λ l. Contains l p) in_order among)))
sorted_differ R remaining (c ∷ order) h ps (inl in_order) =
    let left : List ℕ = filter (λ d. not (d == c)) remaining in
    let rest = sorted_differ R left order h.3 ps in_order in
    (rest.0, λ p among. (from_filter (λ d. not (d == c)) remaining p.item (rest.1 p among)).1)
sorted_differ R remaining (c ∷ order) h ps (inr (mode, others, e, in_order)) =
    let left : List ℕ = filter (λ d. not (d == c)) remaining in
    let rest = sorted_differ R left order h.3 others in_order in
    let first : Pair = record { item = c; value = mode } in
    let other : (p : Pair) → Contains others p → c ≢ p.item = λ p among same.
    false≢true (sym (not_from_true (p.item == c) (eq-eqb p.item c (sym same))) ∙ (from_filter (λ d. not (d == c)) remaining p.item (rest.1 p among)).0)
    in (
      subst IsCube (sym e) (AllPairs-cons (λ p q. p.item ≢ q.item) first others (all_from (λ p. c ≢ p.item) others other) rest.0),
      λ p among. elim (contains_cases first p others (subst (λ l. Contains l p) e among)) [
        | inl here ↦ subst (λ (q : Pair). Contains remaining q.item) here h.0
        | inr there ↦ (from_filter (λ d. not (d == c)) remaining p.item (rest.1 p there)).1
      ],
    )

-- pairs in the order in which all components are taken are a cube
pub sorted_once : (order : List ℕ) (R : ℕ → ℕ → Type 0) (n : ℕ) → TakesEffectsFirstBy R (numbers_below n) order → (sorted : List Pair) → AreInOrder order sorted → IsCube sorted
sorted_once order R n takes sorted in_order = (sorted_differ R (numbers_below n) order takes sorted in_order).0

module _ (order : List ℕ) (pairs : List Pair) where
  -- the pairs of the first components of the order are sorted
  pub record IsSorting (sorted : List Pair) (i : ℕ) : Type 0 where
    pub so_far : (rest : List Pair) → AreInOrder (drop i order) rest → AreInOrder order (sorted ++ rest)
    pub origin : All (Contains pairs) sorted
    pub found : (p : Pair) → Contains pairs p → Contains (take i order) p.item → Contains sorted p

  pub sorting_none : IsSorting [] 0
  sorting_none = record { so_far = λ rest h. h; origin = All-nil (Contains pairs); found = λ p among inside. absurd (contains_none p.item inside) }

  module _ (sorted : List Pair) (i : ℕ) (h : IsSorting sorted i) (within : i < length order) where
    abbrev next : ℕ
    next = get_or order i 0

    inside_cases : (P : Type 0) (c : ℕ) → Contains (take (i + 1) order) c → (Contains (take i order) c → P) → (next ≡ c → P) → P
    inside_cases P c inside before here =
        elim (Contains-push_cases (take i order) next c (subst (λ l. Contains l c) (take_more order i 0 within) inside)) [ inl there ↦ before there | inr e ↦ here e ]

    pub sorting_yes : (p : Pair) → IsCube pairs → Contains pairs p → p.item ≡ next → IsSorting (sorted ++ p ∷ []) (i + 1)
    sorting_yes p once among is_next = record {
      so_far = λ rest in_order.
          let first : p ∷ rest ≡ record { item = next; value = p.value } ∷ rest = λ k. record { item = is_next k; value = p.value } ∷ rest in
          subst (AreInOrder order) (sym (append_assoc sorted (p ∷ []) rest))
          (h.so_far (p ∷ rest) (subst (λ l. AreInOrder l (p ∷ rest)) (sym (drop_more order i 0 within)) (inr (p.value, rest, first, in_order))));
      origin = All-push (Contains pairs) sorted p h.origin among;
      found = λ q there inside. inside_cases (Contains (sorted ++ p ∷ []) q) q.item inside
          (λ before. Contains-append_left sorted (p ∷ []) q (h.found q there before))
          (λ e. subst (Contains (sorted ++ p ∷ [])) (one_pair pairs p q once among there (is_next ∙ e)) (Contains-push sorted p));
    }

    pub sorting_no : Lacks next pairs → IsSorting sorted (i + 1)
    sorting_no lacks = record {
      so_far = λ rest in_order. h.so_far rest (subst (λ l. AreInOrder l rest) (sym (drop_more order i 0 within)) (inl in_order));
      origin = h.origin;
      found = λ q there inside. inside_cases (Contains sorted q) q.item inside (h.found q there)
          (λ e. absurd (All-contains (λ p. p.item ≢ next) pairs q lacks there (sym e)));
    }

  pub sorting_all : (R : ℕ → ℕ → Type 0) (n : ℕ) → TakesEffectsFirstBy R (numbers_below n) order → IsCube pairs → All (λ p. p.item < n) pairs
      → (sorted : List Pair) (i : ℕ) → length order ≤ i → IsSorting sorted i → IsSorted order pairs sorted
  sorting_all R n takes once below sorted i whole h =
      let in_order : AreInOrder order sorted =
      subst (AreInOrder order) (append-nil sorted) (h.so_far [] (subst (λ l. AreInOrder l []) (sym (drop_all i order whole)) refl))
      in
      let differ = sorted_differ R (numbers_below n) order takes sorted in_order in
      let apart : (ps : List Pair) → IsCube ps → AllPairs (λ p q. p ≢ q) ps = λ ps cube a b d lt within same. cube a b d lt within (ap (λ (r : Pair). r.item) same) in
      let inside : (p : Pair) → Contains pairs p → Contains (take i order) p.item = λ p among.
      subst (λ l. Contains l p.item) (sym (take_all i order whole))
      (all_taken R (numbers_below n) order takes p.item (below_contains n p.item (All-contains (λ q. q.item < n) pairs p below among)))
      in
      record {
        same = same_permutation pairs sorted (apart pairs once) (apart sorted differ.0) (λ p among. h.found p among (inside p among)) (λ p among. All-contains (Contains pairs) sorted p h.origin among);
        in_order = in_order;
      }

-- pairs stand where the same pairs in order do
pub held_plain : (order s : List ℕ) (plain sorted : List Pair) → IsSorted order plain sorted → Extends s sorted → Extends s plain
held_plain order s plain sorted is held = All-permutation (λ (p : Pair). slice_get s p.item ≡ Some p.value) sorted plain (IsPermutation-sym plain sorted is.same) held

-- and the other way
pub held_sorted : (order s : List ℕ) (plain sorted : List Pair) → IsSorted order plain sorted → Extends s plain → Extends s sorted
held_sorted order s plain sorted is held = All-permutation (λ (p : Pair). slice_get s p.item ≡ Some p.value) plain sorted is.same held

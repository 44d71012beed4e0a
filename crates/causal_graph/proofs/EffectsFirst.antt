-- Rows that are taken effects first.
use Rattle.std.proofs.Common.{◌≡◌, ◌<◌, ◌≤◌, ◌==◌, ℕ, zero, suc, Bool, not, List, [], ◌∷◌, ◌++◌, length, get_or, All, AllPairs, Contains, filter, sym, ap, subst, ◌∙◌, inl, inr, arith}
use Rattle.std.specs.Prelude.{remove}
use Rattle.std.proofs.lemmas.Bool.{cases_lt, ne_eqb, not_from_false, cond-true}
use Rattle.std.proofs.lemmas.List.{append-nil, append_assoc, get_or_default, nil_from_length}
use Rattle.std.proofs.lemmas.List.Elements.{All-contains, All-filter}
use Rattle.std.proofs.lemmas.List.Kept.{AllPairs-filter}
use Rattle.list_laws.proofs.Pairwise.{AllPairs-head, AllPairs-tail}
use Rattle.cca_base.proofs.PathLaws.{numbers_are_below, numbers_rise, below_contains, takes_out, order_acyclic}
use Rattle.cca_base.specs.Relations.{numbers_below, PathBy, IsAcyclicBy, IsFreeBy, TakesEffectsFirstBy, IsEffectsFirstBy}
use Rattle.causal_graph.specs.Needs.{RowNeeds, AreRows}
use Rattle.causal_graph.specs.Search.{AreNeeded, IsFirstUnset, HasStuck}
use Rattle.cca_base.specs.Flags.{IsSet}
use Rattle.causal_graph.proofs.DistanceRound.{row_within}

-- rising numbers without the one at a place
remove_is : (xs : List ℕ) (i c : ℕ) → AllPairs (λ a b. a < b) xs → i < length xs → get_or xs i 0 ≡ c → remove xs i ≡ filter (λ d. not (d == c)) xs
remove_is [] i c rising within here = absurd (omega arith)
remove_is (x ∷ xs) zero c rising within here = subst (λ d. xs ≡ filter (λ e. not (e == d)) (x ∷ xs)) here (takes_out x xs (AllPairs-head (λ a b. a < b) x xs rising))
remove_is (x ∷ xs) (suc i) c rising within here =
    let below : x < get_or xs i 0 = AllPairs-head (λ a b. a < b) x xs rising i 0 (omega arith) in
    let other : x ≡ c → ⊥ = λ e. omega (arith, e, below, here) in
    ap (λ l. x ∷ l) (remove_is xs i c (AllPairs-tail (λ a b. a < b) x xs rising) (omega arith) here)
    ∙ sym (cond-true (not (x == c)) (x ∷ filter (λ d. not (d == c)) xs) (filter (λ d. not (d == c)) xs) (not_from_false (x == c) (ne_eqb x c other)))

-- a number in a row is the number of a row
pub needed_within : (rows : List (List ℕ)) → AreRows rows → (c u : ℕ) → RowNeeds rows c u → u < length rows
needed_within rows all c u needs =
    let within : c < length rows = row_within rows c u needs in
    All-contains (λ v. v < length rows) (get_or rows c []) u (all c [] within) needs

-- rows that are taken in order have no cycle
pub effects_acyclic : (rows : List (List ℕ)) (order : List ℕ) → AreRows rows → IsEffectsFirstBy (RowNeeds rows) (length rows) order → IsAcyclicBy (RowNeeds rows)
effects_acyclic rows order all h c (between, path) =
    order_acyclic (RowNeeds rows) (numbers_below (length rows)) order h
    (λ d u among needs. below_contains (length rows) u (needed_within rows all d u needs))
    c between (below_contains (length rows) c (starts_within rows c between c path)) path
  where
    starts_within : (rows : List (List ℕ)) (c : ℕ) (between : List ℕ) (u : ℕ) → PathBy (RowNeeds rows) c between u → c < length rows
    starts_within rows c [] u path = row_within rows c u path
    starts_within rows c (d ∷ between) u path = row_within rows c d path.0

module _ (rows : List (List ℕ)) where
  -- some are taken, and the rest remains
  pub record IsTaking (remaining order : List ℕ) : Type 0 where
    pub within : All (λ c. c < length rows) remaining
    pub rising : AllPairs (λ a b. a < b) remaining
    pub so_far : (rest : List ℕ) → TakesEffectsFirstBy (RowNeeds rows) remaining rest → IsEffectsFirstBy (RowNeeds rows) (length rows) (order ++ rest)

  pub taking_none : (remaining : List ℕ) → remaining ≡ numbers_below (length rows) → IsTaking remaining []
  taking_none remaining e = subst (λ xs. IsTaking xs []) (sym e) (record { within = numbers_are_below (length rows); rising = numbers_rise (length rows); so_far = λ rest h. h })

  pub taking_all : (remaining order : List ℕ) → length remaining ≡ 0 → IsTaking remaining order → IsEffectsFirstBy (RowNeeds rows) (length rows) order
  taking_all remaining order none h = subst (IsEffectsFirstBy (RowNeeds rows) (length rows)) (append-nil order) (h.so_far [] (nil_from_length remaining none))

  module _ (remaining order : List ℕ) (flags : List Bool) (h : IsTaking remaining order) (needed : AreNeeded rows remaining flags) where
    pub taking_more : (i c : ℕ) → IsFirstUnset flags remaining i → c ≡ get_or remaining i c → IsTaking (remove remaining i) (order ++ c ∷ [])
    taking_more i c first read =
        let here : get_or remaining i 0 ≡ c = get_or_default remaining i 0 c first.within ∙ sym read in
        let without : remove remaining i ≡ filter (λ d. not (d == c)) remaining = remove_is remaining i c h.rising first.within here in
        let among : Contains remaining c = (i, first.within, sym read) in
        let is_free : IsFreeBy (RowNeeds rows) remaining c = λ d there needs. first.is_unset (subst (IsSet flags) (sym here) ((needed.each c).1 (d, there, needs))) in
        let least : (d : ℕ) → d < c → Contains remaining d → IsFreeBy (RowNeeds rows) remaining d → ⊥ = λ d below there free_d.
        elim (cases_lt there.0 i) [
          | inl before ↦
              let at : get_or remaining there.0 0 ≡ d = get_or_default remaining there.0 0 d there.1 ∙ there.2 in
              let by = (needed.each d).0 (subst (IsSet flags) at (first.before there.0 before)) in
              free_d by.0 by.1 by.2
          | inr after ↦
              let at : get_or remaining there.0 0 ≡ d = get_or_default remaining there.0 0 d there.1 ∙ there.2 in
              not_after there.0 d below there.1 after at here
        ]
        in
        subst (λ xs. IsTaking xs (order ++ c ∷ [])) (sym without) (record {
          within = All-filter (λ d. not (d == c)) (λ d. d < length rows) remaining h.within;
          rising = AllPairs-filter (λ a b. a < b) (λ d. not (d == c)) remaining h.rising;
          so_far = λ rest takes. subst (IsEffectsFirstBy (RowNeeds rows) (length rows)) (sym (append_assoc order (c ∷ []) rest)) (h.so_far (c ∷ rest) (among, is_free, least, takes));
        })
      where
        not_after : (k d : ℕ) → d < c → k < length remaining → i ≤ k → get_or remaining k 0 ≡ d → get_or remaining i 0 ≡ c → ⊥
        not_after k d below within after at here = elim (cases_lt i k) [
          | inl lt ↦ omega (arith, h.rising i k 0 lt within, at, here, below)
          | inr le ↦ let same : k ≡ i = omega arith in omega (arith, ap (λ j. get_or remaining j 0) same, at, here, below)
        ]

    pub taking_stuck : 0 < length remaining → All (IsSet flags) remaining → HasStuck rows
    taking_stuck some all = (remaining, record { some = some; each = λ c among. (needed.each c).0 (All-contains (IsSet flags) remaining c all among) })

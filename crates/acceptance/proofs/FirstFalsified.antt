-- Values that make clauses false, the first of them in order.
use Rattle.std.proofs.Common.{◌≡◌, ◌≤◌, ◌<◌, ◌+◌, ◌==◌, ◌||◌, ◌&&◌, ◌⊎◌, inl, inr, ℕ, suc, Bool, true, false, not, List, [], ◌∷◌, ◌++◌, length, slice_index, take, get_or, Option, Some, None, All, refl, sym, ap, subst, ◌∙◌, arith}
use Rattle.std.specs.Prelude.{if◌then◌else◌}
use Rattle.std.specs.Ordering.{nat_cmp, is_lt as is_less, ordering_then, ordering_reverse, MatchOrdering}
use Rattle.std.specs.Cmp.Lexicographic.{slice_cmp}
use Rattle.std.specs.declared.cmp.Ordering.TheVariants.{Less, Equal, Greater}
use Rattle.std.proofs.lemmas.Bool.{cases_lt, cases_Bool, cases_eq, and_parts, and_from, or_parts, or_left, or_right, or_cases, both_ways, not-true, not_from_false, eqb-false, ne_eqb, false≢true}
use Rattle.std.proofs.lemmas.Cmp.{ranked, nat_list_cmp_total}
use Rattle.std.proofs.lemmas.List.{take_more}
use Rattle.std.proofs.lemmas.List.Elements.{All-head, All-tail}
use Rattle.std.proofs.lemmas.List.Folds.{list_all-append}
use Rattle.list_laws.proofs.Orders.{less_greater, lt_less}
use Rattle.cca_base.specs.Sets.{has}
use Rattle.cca_base.specs.Estimates.{IsEarlier}
use Rattle.clause_form.specs.declared.clause.Literal.{Literal}
use Rattle.clause_form.specs.declared.clause.Clause.{Clause}
use Rattle.clause_form.specs.Clauses.{AreValues, is_met, meets, all_met}
use Rattle.acceptance.specs.Falsified.{is_free, IsLeastFree, IsLeastFalse, IsFirstFalse, IsFirstOrNone, first_of, LeastOrNone}

-- ---- one clause

-- where no literal is true, no literal of the subject is
unmet_free : (xs : List ℕ) (literals : List Literal) (i : ℕ) → is_met xs literals ≡ false → is_free literals i (slice_index xs i) ≡ true
unmet_free xs [] i h = refl
unmet_free xs (l ∷ literals) i h =
    let parts = or_parts (has l.values (slice_index xs l.subject)) (is_met xs literals) h in
    and_from (not (l.subject == i) || not (has l.values (slice_index xs i))) (is_free literals i (slice_index xs i))
    (elim (cases_eq l.subject i) [
      | inl same ↦ or_right (not (l.subject == i)) (not (has l.values (slice_index xs i))) (not_from_false (has l.values (slice_index xs i)) (subst (λ k. has l.values (slice_index xs k) ≡ false) same parts.0))
      | inr other ↦ or_left (not (l.subject == i)) (not (has l.values (slice_index xs i))) (not_from_false (l.subject == i) (ne_eqb l.subject i other))
    ])
    (unmet_free xs literals i parts.1)

free_literal : (l : Literal) (v : ℕ) → (not (l.subject == l.subject) || not (has l.values v)) ≡ true → has l.values v ≡ false
free_literal l v h =
    elim (or_cases (not (l.subject == l.subject)) (not (has l.values v)) h) [
      | inl other ↦ absurd (eqb-false l.subject l.subject (not-true (l.subject == l.subject) other) refl)
      | inr free ↦ not-true (has l.values v) free
    ]

-- where no literal of any subject is true, none is
free_unmet : (n : ℕ) (xs : List ℕ) (literals : List Literal) → All (λ l. l.subject < n) literals → ((i : ℕ) → i < n → is_free literals i (slice_index xs i) ≡ true) → is_met xs literals ≡ false
free_unmet n xs [] below h = refl
free_unmet n xs (l ∷ literals) below h =
    let parts : (i : ℕ) → i < n → ((not (l.subject == i) || not (has l.values (slice_index xs i))) ≡ true) × (is_free literals i (slice_index xs i) ≡ true) =
    λ i within. and_parts (not (l.subject == i) || not (has l.values (slice_index xs i))) (is_free literals i (slice_index xs i)) (h i within) in
    let here : l.subject < n = All-head (λ (x : Literal). x.subject < n) l literals below in
    let rest : is_met xs literals ≡ false = free_unmet n xs literals (All-tail (λ (x : Literal). x.subject < n) l literals below) (λ i within. (parts i within).1) in
    (λ i. free_literal l (slice_index xs l.subject) (parts l.subject here).0 i || rest i)

-- the least values of the first subjects
pub record IsLeastTo (sizes : List ℕ) (literals : List Literal) (n : ℕ) (xs : List ℕ) : Type 0 where
  pub full : length xs ≡ n
  pub each : (i : ℕ) → i < n → IsLeastFree literals i (slice_index sizes i) (slice_index xs i)

pub all_subjects : (sizes : List ℕ) (literals : List Literal) (xs : List ℕ) → All (λ l. l.subject < length sizes) literals → IsLeastTo sizes literals (length sizes) xs → IsLeastFalse sizes literals xs
all_subjects sizes literals xs below h = record {
  values = record { full = h.full; values = λ i within. (h.each i within).within };
  unmet = free_unmet (length sizes) xs literals below (λ i within. (h.each i within).free);
  least = λ ys values unmet i within. elim (cases_lt (slice_index ys i) (slice_index xs i)) [
    | inl less ↦ absurd (both_ways (is_free literals i (slice_index ys i)) ((h.each i within).least (slice_index ys i) less) (unmet_free ys literals i unmet))
    | inr upto ↦ upto
  ];
}

-- where a subject has no such value, the clause is always met
pub always_met : (sizes : List ℕ) (literals : List Literal) (n : ℕ) → n < length sizes → ((v : ℕ) → v < slice_index sizes n → is_free literals n v ≡ false) → (xs : List ℕ) → AreValues sizes xs → is_met xs literals ≡ true
always_met sizes literals n inside none xs values =
    elim (cases_Bool (is_met xs literals)) [
      | inl e ↦ e
      | inr e ↦ absurd (both_ways (is_free literals n (slice_index xs n)) (none (slice_index xs n) (values.values n inside)) (unmet_free xs literals n e))
    ]

-- ---- the first of some values

-- values of which each is as great do not come before
not_before : (xs ys : List ℕ) → length ys ≡ length xs → ((i : ℕ) → i < length xs → slice_index xs i ≤ slice_index ys i) → IsEarlier ys xs → ⊥
not_before [] [] same each h = absurd cc
not_before [] (y ∷ ys) same each h = absurd (omega arith)
not_before (x ∷ xs) [] same each h = absurd (omega arith)
not_before (x ∷ xs) (y ∷ ys) same each h =
    elim (nat_cmp y x) as (λ o. o ≡ nat_cmp y x → MatchOrdering o (y < x) (y ≡ x) (x < y) → ⊥) [
      | Less ↦ λ e less. let upto : x ≤ y = each 0 (omega arith) in absurd (omega arith)
      | Equal ↦ λ e equal. not_before xs ys (omega arith) (λ i within. each (suc i) (omega arith)) (ap (λ o. ordering_then o (slice_cmp nat_cmp ys xs)) e ∙ h)
      | Greater ↦ λ e more. less_greater (sym h ∙ ap (λ o. ordering_then o (slice_cmp nat_cmp ys xs)) (sym e))
    ] refl (ranked y x (nat_cmp y x) refl)

-- what comes before one that is not behind another comes before that
before_both : (xs ys zs : List ℕ) → IsEarlier ys xs → (IsEarlier zs xs → ⊥) → (IsEarlier ys zs → ⊥) → ⊥
before_both xs ys zs h other last =
    elim (slice_cmp nat_cmp ys zs) as (λ o. slice_cmp nat_cmp ys zs ≡ o → ⊥) [
      | Less ↦ λ e. last e
      | Equal ↦ λ e. other (sym (nat_list_cmp_total.congr ys zs xs e) ∙ h)
      | Greater ↦ λ e. other (nat_list_cmp_total.trans zs ys xs (nat_list_cmp_total.antisymm zs ys ∙ ap ordering_reverse e) h)
    ] refl

and_no : (a : Bool) → (a && (false && true)) ≡ false
and_no true = refl
and_no false = refl

one_false : (a b : Bool) → (a && (b && true)) ≡ false → (a ≡ false) ⊎ (b ≡ false)
one_false false b h = inl refl
one_false true false h = inr refl
one_false true true h = inl h

module _ (sizes : List ℕ) (before : List Clause) (c : Clause) where
  abbrev more : List Clause
  more = before ++ c ∷ []

  last_met : (xs : List ℕ) → all_met xs more ≡ (all_met xs before && (meets xs c && true))
  last_met xs = list_all-append (meets xs) before (c ∷ [])

  still_false : (xs : List ℕ) → (all_met xs before ≡ false) ⊎ (meets xs c ≡ false) → all_met xs more ≡ false
  still_false xs (inl e) = last_met xs ∙ ap (λ b. b && (meets xs c && true)) e
  still_false xs (inr e) = last_met xs ∙ ap (λ b. all_met xs before && (b && true)) e ∙ and_no (all_met xs before)

  which_false : (xs : List ℕ) → all_met xs more ≡ false → (all_met xs before ≡ false) ⊎ (meets xs c ≡ false)
  which_false xs h = one_false (all_met xs before) (meets xs c) (sym (last_met xs) ∙ h)

  not_first : (xs ys : List ℕ) → IsLeastFalse sizes c.literals xs → AreValues sizes ys → meets ys c ≡ false → IsEarlier ys xs → ⊥
  not_first xs ys least values unmet h = not_before xs ys (values.full ∙ sym least.values.full) (λ i within. least.least ys values unmet i (omega (arith, within, least.values.full))) h

  new_first : (xs zs : List ℕ) → IsFirstFalse sizes before xs → IsLeastFalse sizes c.literals zs → IsEarlier zs xs → IsFirstFalse sizes more zs
  new_first xs zs h k less = record {
    values = k.values;
    unmet = still_false zs (inr k.unmet);
    first = λ ys values unmet earlier. elim (which_false ys unmet) [
      | inl old ↦ h.first ys values old (nat_list_cmp_total.trans ys zs xs earlier less)
      | inr new ↦ not_first zs ys k values new earlier
    ];
  }

  old_first : (xs zs : List ℕ) → IsFirstFalse sizes before xs → IsLeastFalse sizes c.literals zs → (IsEarlier zs xs → ⊥) → IsFirstFalse sizes more xs
  old_first xs zs h k other = record {
    values = h.values;
    unmet = still_false xs (inl h.unmet);
    first = λ ys values unmet earlier. elim (which_false ys unmet) [
      | inl old ↦ h.first ys values old earlier
      | inr new ↦ before_both xs ys zs earlier other (not_first zs ys k values new)
    ];
  }

  one_clause : (best new : Option (List ℕ)) → IsFirstOrNone sizes before best → LeastOrNone sizes c.literals new → IsFirstOrNone sizes more (first_of best new)
  one_clause None None h k = λ ys values. last_met ys ∙ and_from (all_met ys before) (meets ys c && true) (h ys values) (and_from (meets ys c) true (k ys values) refl)
  one_clause None (Some xs) h k = record {
    values = k.values;
    unmet = still_false xs (inr k.unmet);
    first = λ ys values unmet earlier. elim (which_false ys unmet) [
      | inl old ↦ both_ways (all_met ys before) old (h ys values)
      | inr new ↦ not_first xs ys k values new earlier
    ];
  }
  one_clause (Some xs) None h k = record {
    values = h.values;
    unmet = still_false xs (inl h.unmet);
    first = λ ys values unmet earlier. elim (which_false ys unmet) [
      | inl old ↦ h.first ys values old earlier
      | inr new ↦ both_ways (meets ys c) new (k ys values)
    ];
  }
  one_clause (Some xs) (Some zs) h k =
      elim (is_less (slice_cmp nat_cmp zs xs)) as (λ b. is_less (slice_cmp nat_cmp zs xs) ≡ b → IsFirstOrNone sizes more (if b then Some zs else Some xs)) [
        | true ↦ λ e. new_first xs zs h k (lt_less (slice_cmp nat_cmp zs xs) e)
        | false ↦ λ e. old_first xs zs h k (λ earlier. false≢true (sym e ∙ ap is_less earlier))
      ] refl

-- the next clause of the list
pub next_clause : (sizes : List ℕ) (clauses items : List Clause) (i : ℕ) (c : Clause) (best new chosen : Option (List ℕ)) → items ≡ clauses → i < length items → c ≡ get_or items i c
    → IsFirstOrNone sizes (take i clauses) best → LeastOrNone sizes c.literals new → chosen ≡ first_of best new → IsFirstOrNone sizes (take (i + 1) clauses) chosen
next_clause sizes clauses items i c best new chosen same within here h k e =
    let longer : take i clauses ++ c ∷ [] ≡ take (i + 1) clauses =
    ap (λ x. take i clauses ++ x ∷ []) here ∙ ap (λ l. take i l ++ get_or items i c ∷ []) (sym same) ∙ sym (take_more items i c within) ∙ ap (take (i + 1)) same in
    subst (λ l. IsFirstOrNone sizes l chosen) longer (subst (IsFirstOrNone sizes (take i clauses ++ c ∷ [])) (sym e) (one_clause sizes (take i clauses) c best new h k))

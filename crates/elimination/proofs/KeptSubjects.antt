-- What is left over the subjects that are kept.
use Rattle.std.proofs.Common.{◌≡◌, ◌==◌, ℕ, zero, suc, ◌+◌, ◌<◌, ◌≤◌, ◌&&◌, true, false, not, List, ◌++◌, length, replicate, take, drop, refl, sym, ap, subst, ◌∙◌, arith, get_or}
use Rattle.std.specs.List.{list_any}
use Rattle.std.proofs.lemmas.Bool.{and_from, and_parts, eqb-true, false_from_ne_true, false≢true, not-true}
use Rattle.std.proofs.lemmas.List.{get_or-replicate, length-replicate, length-take-le, take-append-drop, get_or_append_left, get_or-take, length-append, get_or-append-add}
use Rattle.std.proofs.lemmas.List.Folds.{list_any_at, list_any_none}
use Rattle.std.proofs.lemmas.Grind.{get_or_default_zero, same_number_lists}
use Rattle.cca_base.specs.Flags.{is_set}
use Rattle.clause_form.specs.declared.clause.Clause.{Clause}
use Rattle.clause_form.specs.declared.clause.Clauses.{Clauses}
use Rattle.clause_form.specs.Clauses.{AllBelow, AreValues, all_met}
use Rattle.clause_form.proofs.ModelSizes.{both_values}
use Rattle.elimination.specs.Projection.{AreProjected, CanBeMet, IsProjection, has_empty}
use Rattle.clause_form.proofs.OtherSubjects.{all_met_first}

-- values of the ones, and behind them those of the others
pub rest_of_values : (counts sizes s r : List ℕ) → length s ≡ length counts → AreValues (counts ++ sizes) (s ++ r) → AreValues sizes r
rest_of_values counts sizes s r e h =
    let all = h.full in
    record {
      full = omega (arith, all, e, length-append s r, length-append counts sizes);
      values = λ i l.
          let there : get_or (s ++ r) (length counts + i) 0 < get_or (counts ++ sizes) (length counts + i) 0 = h.values (length counts + i) (omega (arith, l, length-append counts sizes)) in
          let mine : get_or (s ++ r) (length counts + i) 0 ≡ get_or r i 0 = subst (λ k. get_or (s ++ r) (k + i) 0 ≡ get_or r i 0) e (get_or-append-add s r i 0) in
          let theirs = get_or-append-add counts sizes i 0 in
          omega (arith, there, mine, theirs);
    }

pub same_front : (n : ℕ) (s z ys : List ℕ) → length s ≡ n → ((u : ℕ) → u < n → get_or ys u 0 ≡ get_or (s ++ z) u 0) → n ≤ length ys → ys ≡ s ++ drop n ys
same_front n s z ys full same long =
    let front : take n ys ≡ s = same_number_lists (take n ys) s (omega (arith, full, length-take-le n ys long)) (λ u l.
    let below : u < n = omega (arith, l, length-take-le n ys long) in
    get_or-take n ys u 0 below ∙ same u below ∙ get_or_append_left s z 0 u (omega (arith, full, below))) in
    sym (take-append-drop n ys) ∙ ap (λ xs. xs ++ drop n ys) front

-- where no size is zero, zeros are values
some_value : (n : ℕ) → (n == 0) ≡ false → 0 < n
some_value zero e = absurd (false≢true (sym e))
some_value (suc n) e = omega arith

zero_values : (sizes : List ℕ) → list_any (λ n. n == 0) sizes ≡ false → AreValues sizes (replicate (length sizes) 0)
zero_values sizes none = record {
  full = length-replicate (length sizes) 0;
  values = λ i l.
      let nonzero : (get_or sizes i 0 == 0) ≡ false = false_from_ne_true _ (λ is. false≢true (sym none ∙ list_any_at (λ n. n == 0) sizes i 0 l is)) in
      let some = some_value (get_or sizes i 0) nonzero in
      subst (λ k. k < get_or sizes i 0) (sym (get_or-replicate (length sizes) i 0 0 l)) some;
}

not_zero : (a n : ℕ) → a < n → (n == 0) ≡ false
not_zero a n h = false_from_ne_true _ (λ is. let zero = eqb-true n 0 is in absurd (omega (arith, h, zero)))

-- values can't be below a size that is zero
no_empty : (sizes xs : List ℕ) → AreValues sizes xs → list_any (λ n. n == 0) sizes ≡ false
no_empty sizes xs h = list_any_none (λ n. n == 0) sizes (λ i d l. ap (λ n. n == 0) (get_or_default_zero sizes i d l) ∙ not_zero _ _ (h.values i l))

module _ (all : Clauses) (keep : ℕ) (new : List Clause) (kept : Clauses) (fits : keep ≤ length all.sizes) (projected : AreProjected all.sizes keep all.clauses new)
    (met : (xs : List ℕ) → all_met xs kept.clauses ≡ (not (has_empty all.sizes keep) && all_met xs new)) where
  full : (xs : List ℕ) → AreValues (take keep all.sizes) xs → length xs ≡ keep
  full xs h = h.full ∙ length-take-le keep all.sizes fits

  whole : (xs ys : List ℕ) → AreValues (take keep all.sizes) xs → AreValues (drop keep all.sizes) ys → AreValues all.sizes (xs ++ ys)
  whole xs ys h k = subst (λ (z : List ℕ). AreValues z (xs ++ ys)) (take-append-drop keep all.sizes) (both_values (take keep all.sizes) (drop keep all.sizes) xs ys h k)

  first : (xs ys : List ℕ) → AreValues (take keep all.sizes) xs → all_met (xs ++ ys) new ≡ all_met xs new
  first xs ys h = all_met_first xs ys new (subst (λ n. AllBelow n new) (sym (full xs h)) projected.below)

  unmarked : (u : ℕ) → u < keep → is_set projected.marks u ≡ false
  unmarked u small = false_from_ne_true _ (λ is. let above = projected.above u is in absurd (omega (arith, small, above)))

  to_others : (xs : List ℕ) → AreValues (take keep all.sizes) xs → all_met xs kept.clauses ≡ true → CanBeMet all keep xs
  to_others xs h e =
      let both = and_parts (not (has_empty all.sizes keep)) (all_met xs new) (sym (met xs) ∙ e) in
      let zeros = replicate (length (drop keep all.sizes)) 0 in
      let behind : AreValues (drop keep all.sizes) zeros = zero_values (drop keep all.sizes) (not-true _ both.0) in
      let there = (projected.exact (xs ++ zeros) (whole xs zeros h behind)).0 (first xs zeros h ∙ both.1) in
      let split : there.0 ≡ xs ++ drop keep there.0 = same_front keep xs zeros there.0 (full xs h) (λ u small. there.2 u (unmarked u small)) (omega (arith, there.1.full, fits)) in (
        drop keep there.0,
        rest_of_values (take keep all.sizes) (drop keep all.sizes) xs (drop keep there.0) h.full
            (subst (λ (z : List ℕ). AreValues z (xs ++ drop keep there.0)) (sym (take-append-drop keep all.sizes)) (subst (AreValues all.sizes) split there.1)),
        subst (λ z. all_met z all.clauses ≡ true) split there.3,
      )

  from_others : (xs : List ℕ) → AreValues (take keep all.sizes) xs → CanBeMet all keep xs → all_met xs kept.clauses ≡ true
  from_others xs h other =
      met xs ∙ and_from _ _ (ap not (no_empty (drop keep all.sizes) other.0 other.1))
      (sym (first xs other.0 h) ∙ (projected.exact (xs ++ other.0) (whole xs other.0 h other.1)).1 (xs ++ other.0, whole xs other.0 h other.1, (λ u unset. refl), other.2))

  pub projection : IsProjection all keep kept
  projection xs h = (to_others xs h, from_others xs h)

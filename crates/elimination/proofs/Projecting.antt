-- Subjects projected away one by one.
use Rattle.std.proofs.Common.{◌≡◌, ◌≢◌, ℕ, zero, suc, ◌<◌, ◌≤◌, Bool, true, false, List, length, replicate, refl, sym, ap, subst, ◌∙◌, arith, inl, inr, set, get_or, get_or-set_other, get_or-set_same, eq-eqb}
use Rattle.std.proofs.lemmas.Bool.{cases_eq, false≢true}
use Rattle.std.proofs.lemmas.Grind.{same_number_lists}
use Rattle.cca_base.specs.Flags.{IsSet, is_set}
use Rattle.cca_base.proofs.FlagLaws.{set_cases}
use Rattle.clause_form.specs.declared.clause.Clause.{Clause}
use Rattle.clause_form.specs.Clauses.{AllBelow, AllOthers, AreValues, all_met, any_below}
use Rattle.elimination.specs.Projection.{AreAllDone, DifferAtMarks, IsLeft, IsProjectedSoFar}
use Rattle.clause_form.proofs.SomeValue.{any_true, some_below}
use Rattle.clause_form.proofs.SetValues.{values_set}

-- ---- no subject yet

unmarked : (n x : ℕ) → is_set (replicate n false) x ≡ false
unmarked zero x = refl
unmarked (suc n) zero = refl
unmarked (suc n) (suc x) = unmarked n x

pub none_projected : (sizes : List ℕ) (n : ℕ) (clauses : List Clause) → IsProjectedSoFar sizes (replicate n false) clauses clauses
none_projected sizes n clauses xs h = (
  (λ met. (xs, h, (λ x u. refl), met)),
  (λ other.
      let same : other.0 ≡ xs = same_number_lists other.0 xs (other.1.full ∙ sym h.full) (λ x l. other.2 x (unmarked n x)) in
      subst (λ ys. all_met ys clauses ≡ true) same other.3),
)

-- ---- one subject more

marked_now : (marks : List Bool) (x u : ℕ) → x < length marks → is_set (set marks x true) u ≡ false → u ≢ x
marked_now marks x u inside h e = false≢true (sym h ∙ ap (is_set (set marks x true)) e ∙ get_or-set_same marks x true false inside)

unmarked_before : (marks : List Bool) (x u : ℕ) → x < length marks → is_set (set marks x true) u ≡ false → is_set marks u ≡ false
unmarked_before marks x u inside h = sym (get_or-set_other marks x u true false (marked_now marks x u inside h)) ∙ h

unmarked_after : (marks : List Bool) (x u : ℕ) → u ≢ x → is_set marks u ≡ false → is_set (set marks x true) u ≡ false
unmarked_after marks x u ne h = get_or-set_other marks x u true false ne ∙ h

module _ (sizes : List ℕ) (keep x : ℕ) (marks : List Bool) (old left new : List Clause) (full : length marks ≡ length sizes) (is_left : IsLeft sizes keep marks x)
    (before : IsProjectedSoFar sizes marks old left) (met : (xs : List ℕ) → AreValues sizes xs → all_met xs new ≡ any_below (get_or sizes x 0) (λ v. all_met (set xs x v) left)) where
  inside : x < length marks
  inside = omega (arith, full, is_left.below)

  to_others : (xs : List ℕ) → AreValues sizes xs → all_met xs new ≡ true → (ys : List ℕ) × AreValues sizes ys × DifferAtMarks (set marks x true) xs ys × (all_met ys old ≡ true)
  to_others xs h e =
      let some = any_true (get_or sizes x 0) (λ v. all_met (set xs x v) left) (sym (met xs h) ∙ e) in
      let there = (before (set xs x some.0) (values_set sizes xs x some.0 h some.1)).0 some.2 in (
        there.0,
        there.1,
        (λ u unset. there.2 u (unmarked_before marks x u inside unset) ∙ get_or-set_other xs x u some.0 0 (marked_now marks x u inside unset)),
        there.3,
      )

  from_others : (xs : List ℕ) → AreValues sizes xs → (ys : List ℕ) × AreValues sizes ys × DifferAtMarks (set marks x true) xs ys × (all_met ys old ≡ true) → all_met xs new ≡ true
  from_others xs h other =
      let ys = other.0 in
      let v = get_or ys x 0 in
      let small : v < get_or sizes x 0 = other.1.values x is_left.below in
      let differ : DifferAtMarks marks (set xs x v) ys = λ u unset. elim (cases_eq u x) [
        | inl e ↦ ap (λ k. get_or ys k 0) e ∙ sym (get_or-set_same xs x v 0 (omega (arith, h.full, is_left.below))) ∙ ap (λ k. get_or (set xs x v) k 0) (sym e)
        | inr ne ↦ other.2 u (unmarked_after marks x u ne unset) ∙ sym (get_or-set_other xs x u v 0 ne)
      ] in
      met xs h ∙ some_below (get_or sizes x 0) (λ n. all_met (set xs x n) left) v small ((before (set xs x v) (values_set sizes xs x v h small)).1 (ys, other.1, differ, other.3))

  pub one_more : IsProjectedSoFar sizes (set marks x true) old new
  one_more xs h = (to_others xs h, from_others xs h)

  pub above_still : ((u : ℕ) → IsSet marks u → keep ≤ u) → (u : ℕ) → IsSet (set marks x true) u → keep ≤ u
  above_still above u h = elim (set_cases marks x u h) [ inl was ↦ above u was | inr e ↦ subst (λ k. keep ≤ k) e is_left.above ]

  pub gone_still : ((u : ℕ) → IsSet marks u → AllOthers u left) → ((u : ℕ) → AllOthers u left → AllOthers u new) → AllOthers x new → (u : ℕ) → IsSet (set marks x true) u → AllOthers u new
  gone_still gone names this u h = elim (set_cases marks x u h) [ inl was ↦ names u (gone u was) | inr e ↦ subst (λ k. AllOthers k new) e this ]

-- ---- no subject left

pub all_below : (keep : ℕ) (marks : List Bool) (clauses : List Clause) → AreAllDone keep marks clauses → ((u : ℕ) → IsSet marks u → AllOthers u clauses) → AllBelow keep clauses
all_below keep marks clauses done gone i d l j e k = elim (done i d l j e k) [
  | inl small ↦ small
  | inr marked ↦ absurd (false≢true (sym (gone _ marked i d l j e k) ∙ eq-eqb _ _ refl))
]

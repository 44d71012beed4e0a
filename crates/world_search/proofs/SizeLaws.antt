-- The room that subjects of given sizes need.
use Rattle.std.proofs.Common.{◌≡◌, inl, inr, ℕ, zero, suc, ◌+◌, ◌-◌, ◌<◌, ◌≤◌, Bool, true, false, cond, List, [], ◌∷◌, length, slice_index, replicate, sym, ap, ◌∙◌, arith}
use Rattle.std.specs.Prelude.{sum_by}
use Rattle.std.proofs.lemmas.Bool.{both_ways, cases_lt, false_from_ne_true}
use Rattle.std.proofs.lemmas.List.{get_or_past, get_or-replicate, length-replicate}
use Rattle.std.proofs.lemmas.List.Sums.{sum_by-cons}
use Rattle.cca_base.specs.Sets.{has}
use Rattle.cca_base.proofs.SetLaws.{has-empty}
use Rattle.clash_analysis.specs.Ends.{count_all, count_in}
use Rattle.world_search.specs.Spaces.{AreInSizes}

one_at_most : (b : Bool) → cond b 1 0 ≤ 1
one_at_most true = omega arith
one_at_most false = omega arith

count_width : (width set : ℕ) → count_in width set ≤ width
count_width zero set = omega arith
count_width (suc width) set = omega (arith, one_at_most (has set width), count_width width set)

-- a set of numbers below a size has no more of them
count_below : (width set size : ℕ) → ((a : ℕ) → has set a ≡ true → a < size) → count_in width set ≤ size
count_below zero set size low = omega arith
count_below (suc width) set size low = elim (cases_lt width size) [
  | inl less ↦ omega (arith, count_width (suc width) set)
  | inr more ↦
      let none : has set width ≡ false = false_from_ne_true (has set width) (λ is. absurd (omega (arith, low width is))) in
      rw none (omega (arith, count_below width set size low))
]

pub room_below : (width : ℕ) (sizes sets : List ℕ) → length sets ≡ length sizes → ((v a : ℕ) → has (slice_index sets v) a ≡ true → a < slice_index sizes v) → count_all width sets ≤ sum_by (λ n. n - 1) sizes + length sets
room_below width [] [] long low = omega arith
room_below width [] (s ∷ sets) long low = absurd (omega (arith, long))
room_below width (n ∷ sizes) [] long low = absurd (omega (arith, long))
room_below width (n ∷ sizes) (s ∷ sets) long low =
    omega (arith, sum_by-cons (λ (n : ℕ). n - 1) n sizes, count_below width s n (low 0), room_below width sizes sets (omega (arith, long)) (λ v a. low (suc v) a))

-- sets with nothing in them
pub none_in_sizes : (n : ℕ) (sizes sets : List ℕ) → sets ≡ replicate n 0 → AreInSizes sizes sets
none_in_sizes n sizes sets same v a is = absurd (both_ways (has 0 a) (has-empty a) (ap (λ s. has s a) (sym (ap (λ l. slice_index l v) same ∙ empty)) ∙ is)) where
  empty : slice_index (replicate n 0) v ≡ 0
  empty = elim (cases_lt v n) [
    | inl less ↦ get_or-replicate n v 0 0 less
    | inr past ↦ get_or_past (replicate n 0) v 0 (omega (arith, length-replicate {A = ℕ} n 0, past))
  ]

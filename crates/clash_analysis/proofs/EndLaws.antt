-- Trails have room, and the ends of levels rise.
use Rattle.std.proofs.Common.{◌≡◌, inl, inr, ℕ, zero, suc, ◌+◌, ◌-◌, ◌*◌, ◌^◌, ◌<◌, ◌≤◌, true, false, List, [], ◌∷◌, ◌++◌, length, set, take, drop, slice_index, sym, ap, subst, ◌∙◌, arith}
use Rattle.std.proofs.lemmas.Bool.{cases_Bool, cases_eq}
use Rattle.std.proofs.Math.Nat.{mul-le-mul_right, pow-suc, pow-zero}
use Rattle.std.proofs.lemmas.List.{append_assoc, drop_more, get_or-take, length-take-le, take-append-drop, take-take}
use Rattle.cca_base.specs.Sets.{has}
use Rattle.clash_analysis.specs.Ends.{count_all, count_in, weight}

-- ---- levels

-- room for one more digit
power : (room n : ℕ) → (room + 2) ^ suc n ≡ suc room * (room + 2) ^ n + (room + 2) ^ n
power room n = pow-suc (room + 2) n ∙ by_two ((room + 2) ^ n) room
  where
    by_two : (p room : ℕ) → p * (room + 2) ≡ suc room * p + p
    by_two p room = grind arith

-- a lower digit, whatever comes behind it
digit : (a b p u : ℕ) → a < b → u < p → a * p + u < b * p
digit a b p u h k = let more : suc a * p ≤ b * p = mul-le-mul_right p h in let next : suc a * p ≡ a * p + p = grind arith in omega (arith, more, next)

pub weight_small : (room n : ℕ) (ends : List ℕ) → weight room n ends < (room + 2) ^ n
weight_small room zero ends = let one : (room + 2) ^ 0 ≡ 1 = pow-zero (room + 2) in rw one (omega arith)
weight_small room (suc n) [] = omega (arith, power room n, weight_small room n [])
weight_small room (suc n) (end ∷ ends) = omega (arith, power room n, digit (room - end) (suc room) ((room + 2) ^ n) (weight room n ends) (omega arith) (weight_small room n ends))

-- a level that ends later, and levels that weren't there
pub weight_later : (room n : ℕ) (front rest more : List ℕ) (end later : ℕ) → end < later → later ≤ room → length front < n → weight room n (front ++ later ∷ more) < weight room n (front ++ end ∷ rest)
weight_later room zero front rest more end later h k few = absurd (omega arith)
weight_later room (suc n) [] rest more end later h k few = omega (arith, digit (room - later) (room - end) ((room + 2) ^ n) (weight room n more) (omega arith) (weight_small room n more))
weight_later room (suc n) (x ∷ front) rest more end later h k few = omega (arith, weight_later room n front rest more end later h k (omega arith))

pub weight_level : (room n : ℕ) (front more : List ℕ) (end : ℕ) → length front < n → weight room n (front ++ end ∷ more) < weight room n front
weight_level room zero front more end few = absurd (omega arith)
weight_level room (suc n) [] more end few = omega (arith, digit (room - end) (suc room) ((room + 2) ^ n) (weight room n more) (omega arith) (weight_small room n more))
weight_level room (suc n) (x ∷ front) more end few = omega (arith, weight_level room n front more end (omega arith))

-- there are no more marks than entries
pub marks_few : (marks : List ℕ) (levels long : ℕ) → ((j k : ℕ) → j < k → k < levels → slice_index marks j < slice_index marks k) → ((k : ℕ) → k < levels → slice_index marks k < long) → levels ≤ long
marks_few marks zero long rising below = omega arith
marks_few marks (suc last) long rising below = omega (arith, high last (omega arith), below last (omega arith))
  where
    high : (k : ℕ) → k < suc last → k ≤ slice_index marks k
    high zero h = omega arith
    high (suc k) h = omega (arith, high k (omega arith), rising k (suc k) (omega arith) (omega arith))

-- ---- room

-- fewer values
pub count_within : (width small large : ℕ) → ((a : ℕ) → has small a ≡ true → has large a ≡ true) → count_in width small ≤ count_in width large
count_within zero small large within = omega arith
count_within (suc width) small large within = elim (cases_Bool (has small width)) [
  | inl is ↦ let there : has large width ≡ true = within width is in rw (is, there) (omega (arith, count_within width small large within))
  | inr out ↦ rw out (omega (arith, count_within width small large within))
]

pub count_less : (width small large a : ℕ) → ((a : ℕ) → has small a ≡ true → has large a ≡ true) → a < width → has small a ≡ false → has large a ≡ true → count_in width small < count_in width large
count_less zero small large a within h out is = absurd (omega arith)
count_less (suc width) small large a within h out is = elim (cases_eq a width) [
  | inl same ↦
      let out_here : has small width ≡ false = subst (λ k. has small k ≡ false) same out in
      let here : has large width ≡ true = subst (λ k. has large k ≡ true) same is in
      rw (out_here, here) (omega (arith, count_within width small large within))
  | inr other ↦
      let less : count_in width small < count_in width large = count_less width small large a within (omega arith) out is in
      elim (cases_Bool (has small width)) [
        | inl both ↦ let there : has large width ≡ true = within width both in rw (both, there) (omega (arith, less))
        | inr none ↦ rw none (omega (arith, less))
      ]
]

pub count_some : (width set a : ℕ) → a < width → has set a ≡ true → 1 ≤ count_in width set
count_some zero set a h is = absurd (omega arith)
count_some (suc width) set a h is = elim (cases_eq a width) [
  | inl same ↦ let here : has set width ≡ true = subst (λ k. has set k ≡ true) same is in rw here (omega arith)
  | inr other ↦ omega (arith, count_some width set a (omega arith) is)
]

-- one set in place of another
pub count_set : (width : ℕ) (sets : List ℕ) (i new : ℕ) → i < length sets → count_all width (set sets i new) + count_in width (slice_index sets i) ≡ count_all width sets + count_in width new
count_set width [] i new h = absurd (omega arith)
count_set width (s ∷ sets) zero new h = omega arith
count_set width (s ∷ sets) (suc i) new h = omega (arith, count_set width sets i new (omega arith))

-- levels that are given up for one entry on a lower one
pub weight_learned : (room : ℕ) (marks : List ℕ) (levels level long : ℕ) → level < levels → levels ≤ length marks → levels ≤ room → slice_index marks level < room
    → weight room (room + 1) (take level marks ++ (slice_index marks level + 1) ∷ []) < weight room (room + 1) (take levels marks ++ long ∷ [])
weight_learned room marks levels level long h within few low =
    let rest : List ℕ = drop (level + 1) (take levels marks) ++ long ∷ [] in
    let same : take levels marks ++ long ∷ [] ≡ take level marks ++ slice_index marks level ∷ rest =
    ap (λ l. l ++ long ∷ []) (sym (take-append-drop level (take levels marks)) ∙ ap (λ l. l ++ drop level (take levels marks)) (take-take level levels marks (omega arith))
    ∙ ap (λ l. take level marks ++ l) (drop_more (take levels marks) level 0 (omega (arith, length-take-le levels marks within)) ∙ ap (λ n. n ∷ drop (level + 1) (take levels marks)) (get_or-take levels marks level 0 h)))
    ∙ append_assoc (take level marks) (slice_index marks level ∷ drop (level + 1) (take levels marks)) (long ∷ []) in
    rw same (weight_later room (room + 1) (take level marks) rest [] (slice_index marks level) (slice_index marks level + 1) (omega arith) (omega arith) (omega (arith, length-take-le level marks (omega arith))))

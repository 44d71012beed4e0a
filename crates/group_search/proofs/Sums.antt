-- Sums over the components that pass a test.
use Rattle.std.proofs.Common.{◌≡◌, inl, inr, ℕ, zero, suc, ◌+◌, ◌<◌, ◌≤◌, Bool, true, false, not, ◌&&◌, ◌==◌, cond, refl, sym, ap, subst, ◌∙◌, arith}
use Rattle.std.proofs.lemmas.Bool.{eq-eqb, ne_eqb}
use Rattle.list_laws.proofs.Orders.{below_next}
use Rattle.group_search.specs.Questions.{sum_where}

part_le : (b : Bool) (x y : ℕ) → (b ≡ true → x ≤ y) → cond b x 0 ≤ cond b y 0
part_le true x y h = h refl
part_le false x y h = omega arith

part_same : (b : Bool) (x y : ℕ) → (b ≡ true → x ≡ y) → cond b x 0 ≡ cond b y 0
part_same true x y h = h refl
part_same false x y h = refl

part_add : (b : Bool) (x y : ℕ) → cond b (x + y) 0 ≡ cond b x 0 + cond b y 0
part_add true x y = refl
part_add false x y = refl

part_split : (a b : Bool) (x : ℕ) → cond a x 0 ≡ cond (a && b) x 0 + cond (a && not b) x 0
part_split true true x = omega arith
part_split true false x = omega arith
part_split false b x = refl

-- less at each of them is less together
pub sum_le : (n : ℕ) (test : ℕ → Bool) (f g : ℕ → ℕ) → ((c : ℕ) → c < n → test c ≡ true → f c ≤ g c) → sum_where n test f ≤ sum_where n test g
sum_le zero test f g h = omega arith
sum_le (suc n) test f g h =
    let rest = sum_le n test f g (λ c less. h c (omega arith)) in
    let here = part_le (test n) (f n) (g n) (h n (omega arith)) in
    omega arith

pub sum_same : (n : ℕ) (test : ℕ → Bool) (f g : ℕ → ℕ) → ((c : ℕ) → c < n → test c ≡ true → f c ≡ g c) → sum_where n test f ≡ sum_where n test g
sum_same zero test f g h = refl
sum_same (suc n) test f g h =
    let rest = sum_same n test f g (λ c less. h c (omega arith)) in
    let here = part_same (test n) (f n) (g n) (h n (omega arith)) in
    omega arith

-- tests that say the same give the same
pub sum_tests : (n : ℕ) (test other : ℕ → Bool) (f : ℕ → ℕ) → ((c : ℕ) → c < n → test c ≡ other c) → sum_where n test f ≡ sum_where n other f
sum_tests zero test other f h = refl
sum_tests (suc n) test other f h =
    let rest = sum_tests n test other f (λ c less. h c (omega arith)) in
    let here : cond (test n) (f n) 0 ≡ cond (other n) (f n) 0 = ap (λ b. cond b (f n) 0) (h n (omega arith)) in
    omega arith

pub sum_add : (n : ℕ) (test : ℕ → Bool) (f g : ℕ → ℕ) → sum_where n test (λ c. f c + g c) ≡ sum_where n test f + sum_where n test g
sum_add zero test f g = refl
sum_add (suc n) test f g =
    let rest = sum_add n test f g in
    let here = part_add (test n) (f n) (g n) in
    omega arith

-- those of a part, and the others
pub sum_split : (n : ℕ) (test part : ℕ → Bool) (f : ℕ → ℕ) → sum_where n test f ≡ sum_where n (λ c. test c && part c) f + sum_where n (λ c. test c && not (part c)) f
sum_split zero test part f = refl
sum_split (suc n) test part f =
    let rest = sum_split n test part f in
    let here = part_split (test n) (part n) (f n) in
    omega arith

pub sum_none : (n : ℕ) (test : ℕ → Bool) (f : ℕ → ℕ) → ((c : ℕ) → c < n → test c ≡ false) → sum_where n test f ≡ 0
sum_none zero test f h = refl
sum_none (suc n) test f h =
    let rest = sum_none n test f (λ c less. h c (omega arith)) in
    let here : cond (test n) (f n) 0 ≡ 0 = ap (λ b. cond b (f n) 0) (h n (omega arith)) in
    omega arith

-- one of them costs no more than all
pub sum_at : (n : ℕ) (test : ℕ → Bool) (f : ℕ → ℕ) (c : ℕ) → c < n → test c ≡ true → f c ≤ sum_where n test f
sum_at zero test f c less is = absurd (omega arith)
sum_at (suc n) test f c less is = elim (below_next c n (omega (arith, less))) [
  | inl before ↦ let rest = sum_at n test f c before is in omega arith
  | inr same ↦
      let here : cond (test n) (f n) 0 ≡ f c = subst (λ k. cond (test k) (f k) 0 ≡ f c) same (ap (λ b. cond b (f c) 0) is) in
      omega arith
]

-- where one of them costs this more, and the others no less, they cost this more together
pub sum_more : (n : ℕ) (test : ℕ → Bool) (f g : ℕ → ℕ) (c more : ℕ) → c < n → test c ≡ true → f c + more ≤ g c → ((d : ℕ) → d < n → test d ≡ true → f d ≤ g d)
    → sum_where n test f + more ≤ sum_where n test g
sum_more zero test f g c more less is own others = absurd (omega arith)
sum_more (suc n) test f g c more less is own others = elim (below_next c n (omega (arith, less))) [
  | inl before ↦
      let rest = sum_more n test f g c more before is own (λ d under. others d (omega arith)) in
      let here = part_le (test n) (f n) (g n) (others n (omega arith)) in
      omega arith
  | inr same ↦
      let rest = sum_le n test f g (λ d under. others d (omega arith)) in
      let its : cond (test n) (f n) 0 ≡ f c = subst (λ k. cond (test k) (f k) 0 ≡ f c) same (ap (λ b. cond b (f c) 0) is) in
      let more_here : cond (test n) (g n) 0 ≡ g c = subst (λ k. cond (test k) (g k) 0 ≡ g c) same (ap (λ b. cond b (g c) 0) is) in
      omega arith
]

part_zero : (b : Bool) → ◌≡◌ {A = ℕ} (cond b 0 0) 0
part_zero true = refl
part_zero false = refl

pub sum_zero : (n : ℕ) (test : ℕ → Bool) → sum_where n test (λ c. 0) ≡ 0
sum_zero zero test = refl
sum_zero (suc n) test =
    let rest = sum_zero n test in
    let here = part_zero (test n) in
    omega arith

-- what one of them gives alone
pub sum_one : (n : ℕ) (test : ℕ → Bool) (c amount : ℕ) → c < n → test c ≡ true → sum_where n test (λ d. cond (d == c) amount 0) ≡ amount
sum_one zero test c amount less is = absurd (omega arith)
sum_one (suc n) test c amount less is = elim (below_next c n (omega (arith, less))) [
  | inl before ↦
      let rest = sum_one n test c amount before is in
      let other : (n == c) ≡ false = ne_eqb n c (λ same. omega (arith, same, before)) in
      let here : cond (test n) (cond (n == c) amount 0) 0 ≡ 0 = ap (λ b. cond (test n) (cond b amount 0) 0) other ∙ part_zero (test n) in
      omega arith
  | inr same ↦
      let none = sum_same n test (λ d. cond (d == c) amount 0) (λ d. 0) (λ d under own. ap (λ b. cond b amount 0) (ne_eqb d c (λ e. omega (arith, e, same, under)))) in
      let zeros = sum_zero n test in
      let its : (n == c) ≡ true = eq-eqb n c (sym same) in
      let own : test n ≡ true = subst (λ k. test k ≡ true) same is in
      let here : cond (test n) (cond (n == c) amount 0) 0 ≡ amount = ap (λ b. cond b (cond (n == c) amount 0) 0) own ∙ ap (λ b. cond b amount 0) its in
      omega arith
]

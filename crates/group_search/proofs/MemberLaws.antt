-- The components of a group as a list, and what they give together.
use Rattle.std.proofs.Common.{◌≡◌, ℕ, zero, suc, ◌+◌, ◌<◌, ◌≤◌, Bool, true, false, cond, List, [], ◌∷◌, ◌++◌, length, slice_index, filter, Option, All, Contains, refl, sym, ap, subst, ◌∙◌, arith}
use Rattle.std.specs.List.{sum_by}
use Rattle.std.proofs.lemmas.List.Elements.{All-contains}
use Rattle.std.proofs.lemmas.List.Sums.{sum_by-append}
use Rattle.list_laws.proofs.Members.{all_from, from_filter, to_filter}
use Rattle.cca_base.specs.Relations.{numbers_below}
use Rattle.cca_base.proofs.PathLaws.{below_contains, length-numbers, numbers_within}
use Rattle.group_search.specs.Questions.{cost_in, in_group, sum_where}

part_push : (b : Bool) (x : ℕ) (xs ys : List ℕ) → cond b (x ∷ (xs ++ ys)) (xs ++ ys) ≡ cond b (x ∷ xs) xs ++ ys
part_push true x xs ys = refl
part_push false x xs ys = refl

-- the last of them is among those that pass, if it passes
filter_push : (test : ℕ → Bool) (xs : List ℕ) (y : ℕ) → filter test (xs ++ y ∷ []) ≡ filter test xs ++ cond (test y) (y ∷ []) []
filter_push test [] y = refl
filter_push test (x ∷ xs) y =
    ap (λ (l : List ℕ). cond (test x) (x ∷ l) l) (filter_push test xs y) ∙ part_push (test x) x (filter test xs) (cond (test y) (y ∷ []) [])

part_sum : (f : ℕ → ℕ) (b : Bool) (y : ℕ) → sum_by f (cond b (y ∷ []) []) ≡ cond b (f y) 0
part_sum f true y = omega arith
part_sum f false y = refl

part_length : (b : Bool) (x : ℕ) (xs : List ℕ) → length (cond b (x ∷ xs) xs) ≤ suc (length xs)
part_length true x xs = omega arith
part_length false x xs = omega arith

filter_short : (test : ℕ → Bool) (xs : List ℕ) → length (filter test xs) ≤ length xs
filter_short test [] = omega arith
filter_short test (x ∷ xs) = omega (arith, part_length (test x) x (filter test xs), filter_short test xs)

module _ (test : ℕ → Bool) where
  -- what they give together
  pub members_sum : (n : ℕ) (f : ℕ → ℕ) → sum_by f (filter test (numbers_below n)) ≡ sum_where n test f
  members_sum zero f = refl
  members_sum (suc n) f =
      ap (sum_by f) (filter_push test (numbers_below n) n) ∙ sum_by-append f (filter test (numbers_below n)) (cond (test n) (n ∷ []) [])
      ∙ ap (λ s. s + sum_by f (cond (test n) (n ∷ []) [])) (members_sum n f) ∙ ap (λ s. sum_where n test f + s) (part_sum f (test n) n)

  -- a list of them: there are no more than numbers, each is one and passes, and each that passes is there
  module _ (n : ℕ) (members : List ℕ) (are : members ≡ filter test (numbers_below n)) where
    pub members_few : length members ≤ n
    members_few = omega (arith, ap length are, filter_short test (numbers_below n), length-numbers n)

    pub member_is : (c : ℕ) → Contains members c → (c < n) × (test c ≡ true)
    member_is c among =
        let (own, below) = from_filter test (numbers_below n) c (subst (λ l. Contains l c) are among) in
        (numbers_within n c below, own)

    pub members_each : (P : ℕ → Type 0) → ((c : ℕ) → c < n → test c ≡ true → P c) → All P members
    members_each P each = all_from P members (λ c among. let is = member_is c among in each c is.0 is.1)

    pub member_has : (P : ℕ → Type 0) → All P members → (c : ℕ) → c < n → test c ≡ true → P c
    member_has P all c less own =
        All-contains P members c all (subst (λ l. Contains l c) (sym are) (to_filter test (numbers_below n) c own (below_contains n c less)))

    pub members_give : (f : ℕ → ℕ) → sum_by f members ≡ sum_where n test f
    members_give f = ap (sum_by f) are ∙ members_sum n f

    -- what they cost, by what a call was given
    pub members_cost : (seen costs read : List ℕ) (cost : ℕ) → seen ≡ members → read ≡ costs → cost ≡ sum_by (λ c. slice_index read c) seen → cost ≡ cost_in n test costs
    members_cost seen costs read cost same shown is =
        is ∙ ap (sum_by (λ c. slice_index read c)) same ∙ ap (λ l. sum_by (λ c. slice_index l c) members) shown ∙ members_give (λ c. slice_index costs c)

-- those of a group, by what a call was given
pub members_read : (members names seen : List ℕ) (group : Option ℕ) (n : ℕ) → seen ≡ names → length names ≡ n → members ≡ filter (in_group seen group) (numbers_below (length seen))
    → members ≡ filter (in_group names group) (numbers_below n)
members_read members names seen group n same long is =
    is ∙ ap (λ s. filter (in_group s group) (numbers_below (length s))) same ∙ ap (λ m. filter (in_group names group) (numbers_below m)) long

-- a list of all numbers below one
module _ (n : ℕ) (numbers : List ℕ) (are : numbers ≡ numbers_below n) where
  pub number_is : (c : ℕ) → Contains numbers c → c < n
  number_is c among = numbers_within n c (subst (λ l. Contains l c) are among)

  pub numbers_each : (P : ℕ → Type 0) → ((c : ℕ) → c < n → P c) → All P numbers
  numbers_each P each = all_from P numbers (λ c among. each c (number_is c among))

  pub number_has : (P : ℕ → Type 0) → All P numbers → (c : ℕ) → c < n → P c
  number_has P all c less = All-contains P numbers c all (subst (λ l. Contains l c) (sym are) (below_contains n c less))

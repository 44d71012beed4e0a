-- Members of lists.
use Rattle.std.proofs.Common.{◌≡◌, ◌⊎◌, ℕ, Bool, true, List, [], ◌∷◌, slice_get, Some, All, Contains, filter, zero, suc, sym, ap, subst, inl, inr, ◌∙◌, arith, ◌<◌, length, get_or}
use Rattle.std.proofs.lemmas.Bool.{cases_Bool, both_ways, cond-true, cond-false}
use Rattle.std.proofs.lemmas.Option.{get_or_from_slice_get, slice_get-get_or, slice_get_within}
use Rattle.std.proofs.lemmas.List.Elements.{All-weaker, All-contains_itself}

-- what holds of each member holds of all
pub all_from : {X : Type 0} (P : X → Type 0) (xs : List X) → ((x : X) → Contains xs x → P x) → All P xs
all_from P xs h = All-weaker (Contains xs) P h xs (All-contains_itself xs)

pub contains_cases : {X : Type 0} (x y : X) (xs : List X) → Contains (x ∷ xs) y → (x ≡ y) ⊎ Contains xs y
contains_cases x y xs (zero, h, e) = inl e
contains_cases x y xs (suc k, h, e) = inr (k, omega arith, e)

pub contains_here : {X : Type 0} (x y : X) (xs : List X) → x ≡ y → Contains (x ∷ xs) y
contains_here x y xs e = (0, omega arith, e)

pub contains_there : {X : Type 0} (x y : X) (xs : List X) → Contains xs y → Contains (x ∷ xs) y
contains_there x y xs h = (suc h.0, omega (arith, h.1), h.2)

pub contains_none : {X : Type 0} (y : X) → Contains [] y → ⊥
contains_none y h = omega (arith, h.1)

pub to_filter : {X : Type 0} (test : X → Bool) (xs : List X) (x : X) → test x ≡ true → Contains xs x → Contains (filter test xs) x
to_filter test [] x h among = among
to_filter test (y ∷ xs) x h among = elim (cases_Bool (test y)) [
  | inl yes_y ↦ subst (λ l. Contains l x) (sym (cond-true (test y) (y ∷ filter test xs) (filter test xs) yes_y))
      (elim (contains_cases y x xs among) [
        | inl e ↦ contains_here y x (filter test xs) e
        | inr there ↦ contains_there y x (filter test xs) (to_filter test xs x h there)
      ])
  | inr no_y ↦ subst (λ l. Contains l x) (sym (cond-false (test y) (y ∷ filter test xs) (filter test xs) no_y))
      (elim (contains_cases y x xs among) [
        | inl e ↦ absurd (both_ways (test y) no_y (subst (λ z. test z ≡ true) (sym e) h))
        | inr there ↦ to_filter test xs x h there
      ])
]

pub from_filter : {X : Type 0} (test : X → Bool) (xs : List X) (x : X) → Contains (filter test xs) x → (test x ≡ true) × Contains xs x
from_filter test [] x among = absurd (contains_none x among)
from_filter test (y ∷ xs) x among = elim (cases_Bool (test y)) [
  | inl yes_y ↦
      elim (contains_cases y x (filter test xs) (subst (λ l. Contains l x) (cond-true (test y) (y ∷ filter test xs) (filter test xs) yes_y) among)) [
        | inl e ↦ (subst (λ z. test z ≡ true) e yes_y, contains_here y x xs e)
        | inr there ↦ let rest = from_filter test xs x there in (rest.0, contains_there y x xs rest.1)
      ]
  | inr no_y ↦
      let rest = from_filter test xs x (subst (λ l. Contains l x) (cond-false (test y) (y ∷ filter test xs) (filter test xs) no_y) among) in
      (rest.0, contains_there y x xs rest.1)
]

-- a member stands at its place, and what stands at a place is a member
pub member_at : {X : Type 0} (xs : List X) (x : X) (h : Contains xs x) → slice_get xs h.0 ≡ Some x
member_at xs x h = slice_get-get_or xs h.0 x h.1 ∙ ap Some h.2

pub at_member : {X : Type 0} (xs : List X) (i : ℕ) (x : X) → slice_get xs i ≡ Some x → Contains xs x
at_member xs i x h = (i, slice_get_within xs i x h, get_or_from_slice_get xs i x x h)

-- an element that a loop found
pub found : {X : Type 0} (xs ys : List X) (i : ℕ) (x : X) → xs ≡ ys → i < length xs → x ≡ get_or xs i x → Contains ys x
found xs ys i x same h e = subst (λ zs. Contains zs x) same (i, h, sym e)

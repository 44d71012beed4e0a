-- The elements of joined, mapped and written lists.
use Rattle.std.proofs.Common.{◌≡◌, ℕ, zero, suc, List, [], ◌∷◌, ◌++◌, length, map, take, drop, All, Contains, refl, ap, ◌∙◌, arith}
use Rattle.std.proofs.lemmas.List.{append-nil, drop_all, take_all}
use Rattle.std.proofs.lemmas.List.Elements.{All-nil, All-cons, All-head, All-tail, Contains-append_right}

-- what holds of all of two lists joined holds of all of each
pub all_left : {X : Type 0} (P : X → Type 0) (xs ys : List X) → All P (xs ++ ys) → All P xs
all_left P [] ys h = All-nil P
all_left P (x ∷ xs) ys h = All-cons P x xs (All-head P x (xs ++ ys) h) (all_left P xs ys (All-tail P x (xs ++ ys) h))

pub all_right : {X : Type 0} (P : X → Type 0) (xs ys : List X) → All P (xs ++ ys) → All P ys
all_right P [] ys h = h
all_right P (x ∷ xs) ys h = all_right P xs ys (All-tail P x (xs ++ ys) h)

pub contains_map : {X Y : Type 0} (f : X → Y) (xs : List X) (x : X) → Contains xs x → Contains (map f xs) (f x)
contains_map f [] x h = absurd (omega (arith, h.1))
contains_map f (y ∷ xs) x (zero, h, e) = (zero, omega arith, ap f e)
contains_map f (y ∷ xs) x (suc k, h, e) = let rest = contains_map f xs x (k, omega (arith, h), e) in (suc rest.0, omega (arith, rest.1), rest.2)

-- an element stands in a list written around it
pub contains_middle : {X : Type 0} (before after : List X) (x : X) → Contains (before ++ x ∷ after) x
contains_middle before after x = Contains-append_right before (x ∷ after) x (0, omega arith, refl)

-- lists that are equal begin with one element, and the rest is one
pub same_head : {X : Type 0} (x y : X) (xs ys : List X) → x ∷ xs ≡ y ∷ ys → x ≡ y
same_head x y xs ys e = cc

pub same_tail : {X : Type 0} (x y : X) (xs ys : List X) → x ∷ xs ≡ y ∷ ys → xs ≡ ys
same_tail x y xs ys e = cc

-- what a vector has after a write through its slice
pub written_back : {X : Type 0} (len : ℕ) (old slice new : List X) → slice ≡ old → length slice ≡ len → length new ≡ length slice → take len (new ++ drop (length new) old) ≡ new
written_back len old slice new same full kept =
    let none = drop_all (length new) old (omega (arith, kept, ap length same)) in
    ap (λ rest. take len (new ++ rest)) none ∙ ap (take len) (append-nil new) ∙ take_all len new (omega (arith, kept, full))

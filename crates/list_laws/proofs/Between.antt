-- Lists in which each element is related to each later one, with one more between.
use Rattle.std.proofs.Common.{◌++◌, ◌∷◌, [], ℕ, List, All, AllPairs, take, drop, refl, subst, sym}
use Rattle.std.proofs.lemmas.List.{take-append-drop}
use Rattle.std.specs.List.{insert}
use Rattle.std.proofs.lemmas.List.Elements.{All-nil, All-cons, All-head, All-tail, All-append, All-contains, Contains-append_right}
use Rattle.std.proofs.lemmas.List.Kept.{AllPairs-cons}
use Rattle.list_laws.proofs.Elements.{all_left, all_right}
use Rattle.list_laws.proofs.Pairwise.{AllPairs-head, AllPairs-tail}
use Rattle.list_laws.proofs.Members.{contains_here}

pub AllPairs-between : {X : Type 0} (R : X → X → Type 0) (xs ys : List X) (x : X) → AllPairs R (xs ++ ys) → All (λ y. R y x) xs → All (R x) ys → AllPairs R (xs ++ x ∷ ys)
AllPairs-between R [] ys x h before after = AllPairs-cons R x ys after h
AllPairs-between R (z ∷ xs) ys x h before after =
    let head = AllPairs-head R z (xs ++ ys) h in
    AllPairs-cons R z (xs ++ x ∷ ys)
    (All-append (R z) xs (x ∷ ys) (all_left (R z) xs ys head) (All-cons (R z) x ys (All-head (λ y. R y x) z xs before) (all_right (R z) xs ys head)))
    (AllPairs-between R xs ys x (AllPairs-tail R z (xs ++ ys) h) (All-tail (λ y. R y x) z xs before) after)

pub AllPairs-insert : {X : Type 0} (R : X → X → Type 0) (xs : List X) (n : ℕ) (x : X) → AllPairs R xs → All (λ y. R y x) (take n xs) → All (R x) (drop n xs) → AllPairs R (insert xs n x)
AllPairs-insert R xs n x h before after = AllPairs-between R (take n xs) (drop n xs) x (subst (AllPairs R) (sym (take-append-drop n xs)) h) before after

-- what stands before an element is related to it
pub all_before : {X : Type 0} (R : X → X → Type 0) (xs ys : List X) (x : X) → AllPairs R (xs ++ x ∷ ys) → All (λ y. R y x) xs
all_before R [] ys x h = All-nil (λ y. R y x)
all_before R (z ∷ xs) ys x h =
    All-cons (λ y. R y x) z xs
    (All-contains (R z) (xs ++ x ∷ ys) x (AllPairs-head R z (xs ++ x ∷ ys) h) (Contains-append_right xs (x ∷ ys) x (contains_here x x ys refl)))
    (all_before R xs ys x (AllPairs-tail R z (xs ++ x ∷ ys) h))

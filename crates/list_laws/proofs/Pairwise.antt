-- Lists in which each element is related to each later one.
use Rattle.std.proofs.Common.{ℕ, zero, suc, List, [], ◌∷◌, ◌++◌, take, All, AllPairs, arith}
use Rattle.std.proofs.lemmas.List.Elements.{All-take}
use Rattle.std.proofs.lemmas.List.Kept.{AllPairs-cons}

pub AllPairs-tail : {X : Type 0} (R : X → X → Type 0) (x : X) (xs : List X) → AllPairs R (x ∷ xs) → AllPairs R xs
AllPairs-tail R x xs h i j d before within = h (suc i) (suc j) d (omega arith) (omega arith)

pub AllPairs-head : {X : Type 0} (R : X → X → Type 0) (x : X) (xs : List X) → AllPairs R (x ∷ xs) → All (R x) xs
AllPairs-head R x xs h k d within = h 0 (suc k) d (omega arith) (omega arith)

-- those behind others are related as they were
pub AllPairs-right : {X : Type 0} (R : X → X → Type 0) (xs ys : List X) → AllPairs R (xs ++ ys) → AllPairs R ys
AllPairs-right R [] ys h = h
AllPairs-right R (x ∷ xs) ys h = AllPairs-right R xs ys (AllPairs-tail R x (xs ++ ys) h)

-- the first of them are related as they were
pub AllPairs-take : {X : Type 0} (R : X → X → Type 0) (n : ℕ) (xs : List X) → AllPairs R xs → AllPairs R (take n xs)
AllPairs-take R zero xs h = λ i j d before within. absurd (omega arith)
AllPairs-take R (suc n) [] h = λ i j d before within. absurd (omega arith)
AllPairs-take R (suc n) (x ∷ xs) h = AllPairs-cons R x (take n xs) (All-take (R x) n xs (AllPairs-head R x xs h)) (AllPairs-take R n xs (AllPairs-tail R x xs h))

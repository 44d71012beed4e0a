-- Values for some of the subjects.
use Rattle.std.specs.Prelude.{ℕ, zero, suc, ◌<◌, List, [], ◌∷◌, Option, Some, IsSome, MatchOption, map}

-- a value for each subject
abbrev pub Values : Type 0
Values = List ℕ

-- for each subject its value, or none yet
abbrev pub Partial : Type 0
Partial = List (Option ℕ)

-- each subject has the value that is listed
abbrev pub given : List ℕ → List (Option ℕ)
given xs = map (λ x. Some x) xs

-- each value is below its subject's size
abbrev pub IsWithin : List ℕ → List (Option ℕ) → Type 0
IsWithin [] [] = Unit {0}
IsWithin [] (o ∷ q) = ⊥
IsWithin (n ∷ sizes) [] = ⊥
IsWithin (n ∷ sizes) (o ∷ q) = MatchOption o (Unit {0}) (λ v. v < n) × IsWithin sizes q

-- each subject from k on has a value
abbrev pub HasFrom : ℕ → List (Option ℕ) → Type 0
HasFrom k [] = Unit {0}
HasFrom zero (o ∷ q) = IsSome o × HasFrom zero q
HasFrom (suc k) (o ∷ q) = HasFrom k q

-- each subject has a value
abbrev pub IsTotal : List (Option ℕ) → Type 0
IsTotal q = HasFrom 0 q

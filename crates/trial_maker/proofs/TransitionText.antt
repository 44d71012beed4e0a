-- The text of a move or a repair comes in three parts: what is before its guard, the guard, and the line's end.
use Rattle.std.proofs.Common.{◌≡◌, ℕ, ◌++◌, List, [], ◌∷◌, codes, append_assoc}
use Rattle.trial_maker.specs.Documents.{ended}

pub three_parts : (before word digits modes number guard : List ℕ)
    → (before ++ (word ++ (codes " c" ++ (digits ++ (codes " " ++ (modes ++ (codes " by k" ++ (digits ++ (codes "_" ++ (number ++ codes " when "))))))))) ++ guard) ++ 10 ∷ []
    ≡ before ++ ended (word ++ codes " " ++ (codes "c" ++ digits) ++ codes " " ++ modes ++ codes " by " ++ (codes "k" ++ digits ++ codes "_" ++ number) ++ codes " when " ++ guard)
three_parts before word digits modes number guard = simp append_assoc

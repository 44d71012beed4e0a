-- A subject's value bears on the rows alone that name the subject.
use Rattle.prime_implicants.specs.DenseClauses.{row_unfalsified, all_unfalsified, is_zero, named_unfalsified}
use Rattle.std.proofs.Common.{◌≡◌, ℕ, Bool, true, false, not, cond, ◌&&◌, ◌||◌, List, [], ◌∷◌, Option, Some, None, refl, ◌∙◌, ap, set, get_or}
use Rattle.std.specs.List.{filter}
use Rattle.std.proofs.lemmas.Bool.{and_parts}
use Rattle.prime_implicants.proofs.Completeness.{row_unfalsified-other}

kept : (q : List (Option ℕ)) (r : List ℕ) (rows : List (List ℕ)) (b : Bool) → (b ≡ true → row_unfalsified q r ≡ true) → all_unfalsified q rows ≡ true → all_unfalsified q (cond b (r ∷ rows) rows) ≡ true
kept q r rows true h k = rw (h refl, k)
kept q r rows false h k = k

-- a row that doesn't name the subject may still be true once the subject has a value
pub others_stay : (x v : ℕ) (q : List (Option ℕ)) (rows : List (List ℕ)) → get_or q x None ≡ None → all_unfalsified q rows ≡ true
    → all_unfalsified (set q x (Some v)) (filter (is_zero x) rows) ≡ true
others_stay x v q [] e h = refl
others_stay x v q (r ∷ rows) e h =
    let both = and_parts (row_unfalsified q r) (all_unfalsified q rows) h in
    kept (set q x (Some v)) r (filter (is_zero x) rows) (is_zero x r) (λ z. row_unfalsified-other q r x v e (ap not z) ∙ both.0) (others_stay x v q rows e both.1)

one_of_them : (q : List (Option ℕ)) (r : List ℕ) (others : List (List ℕ)) (unnamed rest named : Bool) → all_unfalsified q (cond unnamed (r ∷ others) others) ≡ true
    → (all_unfalsified q others ≡ true → rest ≡ named) → (row_unfalsified q r && rest) ≡ ((unnamed || row_unfalsified q r) && named)
one_of_them q r others true rest named h k = let both = and_parts (row_unfalsified q r) (all_unfalsified q others) h in rw (both.0, k both.1)
one_of_them q r others false rest named h k = ap (λ b. row_unfalsified q r && b) (k h)

-- where the others may still be true, all may where those may that name the subject
pub others_and_named : (x : ℕ) (q : List (Option ℕ)) (rows : List (List ℕ)) → all_unfalsified q (filter (is_zero x) rows) ≡ true → all_unfalsified q rows ≡ named_unfalsified x q rows
others_and_named x q [] h = refl
others_and_named x q (r ∷ rows) h =
    one_of_them q r (filter (is_zero x) rows) (is_zero x r) (all_unfalsified q rows) (named_unfalsified x q rows) h (others_and_named x q rows)

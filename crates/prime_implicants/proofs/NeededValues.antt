-- All values are needed where each row that is false names all of their subjects.
use Rattle.prime_implicants.specs.DenseClauses.{fits, row_unfalsified, all_unfalsified, mentions}
use Rattle.prime_implicants.specs.Found.{all_below, is_needed, names_all}
use Rattle.std.proofs.Common.{◌≡◌, ℕ, zero, suc, ◌<◌, Bool, true, false, not, ◌&&◌, ◌||◌, eqb, List, [], ◌∷◌, length, Option, None, refl, sym, ◌∙◌, ap, arith, set, get_or}
use Rattle.std.specs.List.{list_all}
use Rattle.std.specs.Option.{is_none}
use mathlib.Core.Bool.{or-true}
use Rattle.prime_implicants.proofs.Completeness.{fits_wider}
use Rattle.prime_implicants.proofs.PartialValueLaws.{shifted}

-- ---- a value taken out

at_head : (fit rest named : Bool) → (fit ≡ true → named ≡ true) → (named || rest) ≡ ((fit || rest) || named)
at_head true rest named h = rw (h refl) refl
at_head false true true h = refl
at_head false true false h = refl
at_head false false true h = refl
at_head false false false h = refl

row_unfalsified-without : (q : List (Option ℕ)) (row : List ℕ) (i : ℕ) → i < length q → row_unfalsified (set q i None) row ≡ (row_unfalsified q row || mentions i row)
row_unfalsified-without [] row i h = absurd (omega arith)
row_unfalsified-without (o ∷ q) [] zero h = refl
row_unfalsified-without (o ∷ q) [] (suc i) h = refl
row_unfalsified-without (o ∷ q) (s ∷ row) zero h = at_head (fits o s) (row_unfalsified q row) (not (eqb s 0)) (fits_wider o None s tt)
row_unfalsified-without (o ∷ q) (s ∷ row) (suc i) h =
    let l : i < length q = omega arith in shifted (fits o s) (row_unfalsified (set q i None) row) (row_unfalsified q row) (mentions i row) (row_unfalsified-without q row i l)

-- ---- a value is needed by every row

row_step : (free meets named rest all : Bool) → (free || rest) ≡ all → (free || ((meets || named) && rest)) ≡ ((meets || (free || named)) && all)
row_step true true named rest all e = e
row_step true false named rest all e = e
row_step false meets named rest all e = ap (λ b. (meets || named) && b) e

needed_by_rows : (q : List (Option ℕ)) (i : ℕ) → i < length q → (rows : List (List ℕ)) → is_needed rows q i ≡ list_all (λ r. row_unfalsified q r || (is_none (get_or q i None) || mentions i r)) rows
needed_by_rows q i h [] = or-true (is_none (get_or q i None))
needed_by_rows q i h (r ∷ rows) =
    ap (λ b. is_none (get_or q i None) || (b && all_unfalsified (set q i None) rows)) (row_unfalsified-without q r i h)
    ∙ row_step (is_none (get_or q i None)) (row_unfalsified q r) (mentions i r) (all_unfalsified (set q i None) rows) _ (needed_by_rows q i h rows)

-- ---- row by row, or subject by subject

all_pass : (meets : List ℕ → Bool) (rows : List (List ℕ)) → list_all (λ r. meets r || true) rows ≡ true
all_pass meets [] = refl
all_pass meets (r ∷ rows) = rw (or-true (meets r), all_pass meets rows) refl

both_step : (meets first last left right : Bool) → ((meets || (first && last)) && (left && right)) ≡ (((meets || first) && left) && ((meets || last) && right))
both_step true first last true right = refl
both_step true first last false right = refl
both_step false true true true right = refl
both_step false true true false right = refl
both_step false true false true right = refl
both_step false true false false right = refl
both_step false false last left right = refl

both_pass : (meets first last : List ℕ → Bool) (rows : List (List ℕ))
    → list_all (λ r. meets r || (first r && last r)) rows ≡ (list_all (λ r. meets r || first r) rows && list_all (λ r. meets r || last r) rows)
both_pass meets first last [] = refl
both_pass meets first last (r ∷ rows) =
    ap (λ b. (meets r || (first r && last r)) && b) (both_pass meets first last rows)
    ∙ both_step (meets r) (first r) (last r) (list_all (λ r. meets r || first r) rows) (list_all (λ r. meets r || last r) rows)

by_subject : (n : ℕ) (meets : List ℕ → Bool) (test : ℕ → List ℕ → Bool) (rows : List (List ℕ))
    → list_all (λ r. meets r || all_below n (λ i. test i r)) rows ≡ all_below n (λ i. list_all (λ r. meets r || test i r) rows)
by_subject zero meets test rows = all_pass meets rows
by_subject (suc n) meets test rows =
    both_pass meets (λ r. all_below n (λ i. test i r)) (test n) rows ∙ ap (λ b. b && list_all (λ r. meets r || test n r) rows) (by_subject n meets test rows)

all_below_same : (n : ℕ) (s t : ℕ → Bool) → ((i : ℕ) → i < n → s i ≡ t i) → all_below n s ≡ all_below n t
all_below_same zero s t h = refl
all_below_same (suc n) s t h =
    let rest : all_below n s ≡ all_below n t = all_below_same n s t (λ i l. h i (omega arith)) in
    let last : s n ≡ t n = h n (omega arith) in rw (rest, last) refl

pub all_needed : (q : List (Option ℕ)) (rows : List (List ℕ)) → list_all (λ r. row_unfalsified q r || names_all q r) rows ≡ all_below (length q) (is_needed rows q)
all_needed q rows =
    by_subject (length q) (row_unfalsified q) (λ i r. is_none (get_or q i None) || mentions i r) rows
    ∙ all_below_same (length q) (λ i. list_all (λ r. row_unfalsified q r || (is_none (get_or q i None) || mentions i r)) rows) (is_needed rows q) (λ i h. sym (needed_by_rows q i h rows))

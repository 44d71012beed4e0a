-- Values for all subjects, as lists of numbers and as partial values.
use Rattle.std.proofs.Common.{◌≡◌, ℕ, zero, suc, ◌+◌, ◌<◌, Bool, true, false, ◌||◌, List, [], ◌∷◌, ◌++◌, length, Option, Some, None, refl, ◌∙◌, ap, arith, bit_or, set, get_or, take, replicate, add-one}
use Rattle.list_laws.proofs.TestedLists.{or_swap}
use Rattle.cca_base.specs.Sets.{has}
use Rattle.cca_base.proofs.SetLaws.{has-or}
use Rattle.clause_form.specs.Clauses.{AreValues}
use Rattle.prime_implicants.specs.Partial.{IsWithin, IsTotal, given}
use Rattle.prime_implicants.specs.DenseClauses.{row_unfalsified, union_rows}

-- ---- unions, subject by subject

union-step : (a b : List ℕ) (i : ℕ) → i < length a → i < length b → union_rows (take (suc i) a) (take (suc i) b) ≡ union_rows (take i a) (take i b) ++ bit_or (get_or a i 0) (get_or b i 0) ∷ []
union-step [] b i h k = absurd (omega arith)
union-step (s ∷ a) [] i h k = absurd (omega arith)
union-step (s ∷ a) (t ∷ b) zero h k = refl
union-step (s ∷ a) (t ∷ b) (suc i) h k = let l : i < length a = omega arith in let m : i < length b = omega arith in ap (λ r. bit_or s t ∷ r) (union-step a b i l m)

pub union_rows-step : (a b : List ℕ) (i : ℕ) → i < length a → i < length b → union_rows (take (i + 1) a) (take (i + 1) b) ≡ union_rows (take i a) (take i b) ++ bit_or (get_or a i 0) (get_or b i 0) ∷ []
union_rows-step a b i h k = rw (add-one) (union-step a b i h k)

-- ---- one more value in a subject's set

pub shifted : (a b c d : Bool) → b ≡ (c || d) → (a || b) ≡ ((a || c) || d)
shifted true b c d e = refl
shifted false b c d e = e

pub row_unfalsified-widened : (xs row : List ℕ) (i s : ℕ) → length xs ≡ length row → i < length row
    → row_unfalsified (given xs) (set row i (bit_or (get_or row i 0) s)) ≡ (row_unfalsified (given xs) row || has s (get_or xs i 0))
row_unfalsified-widened xs [] i s e h = absurd (omega arith)
row_unfalsified-widened [] (t ∷ row) i s e h = absurd (omega arith)
row_unfalsified-widened (x ∷ xs) (t ∷ row) zero s e h = ap (λ b. b || row_unfalsified (given xs) row) (has-or t s x) ∙ or_swap (has t x) (has s x) (row_unfalsified (given xs) row)
row_unfalsified-widened (x ∷ xs) (t ∷ row) (suc i) s e h =
    let l : length xs ≡ length row = omega arith in
    let k : i < length row = omega arith in
    shifted (has t x) _ (row_unfalsified (given xs) row) (has s (get_or xs i 0)) (row_unfalsified-widened xs row i s l k)

-- ---- values in range

within_given : (sizes xs : List ℕ) → length xs ≡ length sizes → ((i : ℕ) → i < length sizes → get_or xs i 0 < get_or sizes i 0) → IsWithin sizes (given xs)
within_given [] [] e v = tt
within_given [] (x ∷ xs) e v = absurd (omega arith)
within_given (n ∷ sizes) [] e v = absurd (omega arith)
within_given (n ∷ sizes) (x ∷ xs) e v = let l : length xs ≡ length sizes = omega arith in (v 0 (omega arith), within_given sizes xs l (λ i h. v (suc i) (omega arith)))

pub within_values : (sizes xs : List ℕ) → AreValues sizes xs → IsWithin sizes (given xs)
within_values sizes xs a = within_given sizes xs a.full a.values

full_given : (sizes xs : List ℕ) → IsWithin sizes (given xs) → length xs ≡ length sizes
full_given [] [] w = refl
full_given [] (x ∷ xs) w = absurd w
full_given (n ∷ sizes) [] w = absurd w
full_given (n ∷ sizes) (x ∷ xs) w = ap suc (full_given sizes xs w.1)

below_given : (sizes xs : List ℕ) (i : ℕ) → IsWithin sizes (given xs) → i < length sizes → get_or xs i 0 < get_or sizes i 0
below_given [] xs i w h = absurd (omega arith)
below_given (n ∷ sizes) [] i w h = absurd w
below_given (n ∷ sizes) (x ∷ xs) zero w h = w.0
below_given (n ∷ sizes) (x ∷ xs) (suc i) w h = let l : i < length sizes = omega arith in below_given sizes xs i w.1 l

pub values_given : (sizes xs : List ℕ) → IsWithin sizes (given xs) → AreValues sizes xs
values_given sizes xs w = record { full = full_given sizes xs w; values = λ i h. below_given sizes xs i w h }

pub total_given : (xs : List ℕ) → IsTotal (given xs)
total_given [] = tt
total_given (x ∷ xs) = (refl, total_given xs)

pub given_of : (q : List (Option ℕ)) → IsTotal q → (xs : List ℕ) × (q ≡ given xs)
given_of [] t = ([], refl)
given_of (None ∷ q) t = absurd (cc)
given_of (Some v ∷ q) t = let r = given_of q t.1 in (v ∷ r.0, ap (λ z. Some v ∷ z) r.1)

pub length_given : (xs : List ℕ) → length (given xs) ≡ length xs
length_given [] = refl
length_given (x ∷ xs) = ap suc (length_given xs)

-- ---- other values

pub within_nothing : (sizes : List ℕ) → IsWithin sizes (replicate (length sizes) None)
within_nothing [] = tt
within_nothing (n ∷ sizes) = (tt, within_nothing sizes)

pub within-set : (sizes : List ℕ) (q : List (Option ℕ)) (k v : ℕ) → IsWithin sizes q → v < get_or sizes k 0 → IsWithin sizes (set q k (Some v))
within-set [] [] k v w h = tt
within-set [] (o ∷ q) k v w h = absurd w
within-set (n ∷ sizes) [] k v w h = absurd w
within-set (n ∷ sizes) (o ∷ q) zero v w h = (h, w.1)
within-set (n ∷ sizes) (o ∷ q) (suc k) v w h = (w.0, within-set sizes q k v w.1 h)

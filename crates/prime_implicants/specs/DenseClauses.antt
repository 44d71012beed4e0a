-- Clauses as rows: for each subject the set of the values with which it makes the clause true.
use Rattle.std.specs.Prelude.{◌≡◌, ◌≤◌, IsTrue, ℕ, Bool, not, ◌==◌, ◌-◌, ◌^◌, ◌&&◌, ◌||◌, List, length, Option, Some, None, map, bit_or, slice_index, slice_set, nat_lt}
use Rattle.std.specs.List.{zip, list_all, list_any}
use Rattle.cca_base.specs.Sets.{has}
use Rattle.cca_base.specs.declared.limits.TheConstants.{MAX_ROWS}
use Rattle.clause_form.specs.declared.clause.Clauses.{Clauses}
use Rattle.clause_form.specs.Clauses.{all_met, any_below}
use Rattle.prime_implicants.specs.Partial.{Values, given}

-- for each subject a set of values
abbrev pub Sets : Type 0
Sets = List ℕ

-- a set has a value that a subject may still take: its value, or any where it has none yet
abbrev pub fits : Option ℕ → ℕ → Bool
fits None set = not (set == 0)
fits (Some v) set = has set v

-- some subject may still make the row true
abbrev pub row_unfalsified : List (Option ℕ) → List ℕ → Bool
row_unfalsified q row = list_any (λ (p : Option ℕ × ℕ). fits p.0 p.1) (zip q row)

-- each row may still be true; of values for all subjects: each row is true
abbrev pub all_unfalsified : List (Option ℕ) → List (List ℕ) → Bool
all_unfalsified q rows = list_all (row_unfalsified q) rows

-- the row has a set for each subject
abbrev pub is_wide : ℕ → List ℕ → Bool
is_wide n row = length row == n

-- for each subject what is in one of the two sets
abbrev pub union_rows : List ℕ → List ℕ → List ℕ
union_rows a b = map (λ (p : ℕ × ℕ). bit_or p.0 p.1) (zip a b)

-- the first row says as much
abbrev pub is_stronger : List ℕ → List ℕ → Bool
is_stronger a b = list_all (λ (p : ℕ × ℕ). bit_or p.0 p.1 == p.1) (zip a b)

-- the set has each number below n, and some number
abbrev pub is_full : ℕ → ℕ → Bool
is_full n set = not (set == 0) && (bit_or (2 ^ n - 1) set == set)

-- some set has all values
abbrev pub is_always : List ℕ → List ℕ → Bool
is_always sizes row = list_any (λ (p : ℕ × ℕ). is_full p.0 p.1) (zip sizes row)

-- the subject can't make the row true
abbrev pub is_zero : ℕ → List ℕ → Bool
is_zero y row = slice_index row y == 0

-- the subject can make the row true
abbrev pub mentions : ℕ → List ℕ → Bool
mentions x row = not (is_zero x row)

-- each row that names the subject may still be true
abbrev pub named_unfalsified : ℕ → List (Option ℕ) → List (List ℕ) → Bool
named_unfalsified x q rows = list_all (λ row. is_zero x row || row_unfalsified q row) rows

-- the value is in the set of every row that names the subject
abbrev pub have_value : ℕ → ℕ → List (List ℕ) → Bool
have_value x v rows = list_all (λ row. is_zero x row || has (slice_index row x) v) rows

-- some value of the subject is in the set of every row that names it
abbrev pub is_pure : ℕ → ℕ → List (List ℕ) → Bool
is_pure n x rows = any_below n (λ v. have_value x v rows)

-- the row has a set for the subject
abbrev pub is_in : ℕ → List ℕ → Bool
is_in x row = nat_lt x (length row)

-- the row has a set for each of the values
abbrev pub is_sized : List (Option ℕ) → List ℕ → Bool
is_sized q row = length row == length q

-- the row without the subject's set
abbrev pub fix_row : ℕ → List ℕ → List ℕ
fix_row x row = slice_set row x 0

-- rows over the clauses' subjects, which are true of the same values and have none past the sets of values
pub record AreDense (clauses : Clauses) (rows : List (List ℕ)) : Type 0 where
  pub wide : IsTrue (list_all (is_wide (length clauses.sizes)) rows)
  pub unfalsified : (xs : Values) → length xs ≡ length clauses.sizes → all_unfalsified (given xs) rows ≡ all_met xs clauses.clauses
  pub zero : (y : ℕ) → MAX_ROWS ≤ y → IsTrue (list_all (is_zero y) rows)

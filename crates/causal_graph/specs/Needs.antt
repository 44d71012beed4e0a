-- What components need, as rows of numbers.
use Rattle.std.specs.Prelude.{ℕ, ◌<◌, List, [], length, slice_index_or, All, Contains}
use Rattle.cca_base.specs.Relations.{AncestorBy, AreExactly}

-- the row of c has u
abbrev pub RowNeeds : List (List ℕ) → ℕ → ℕ → Type 0
RowNeeds rows c u = Contains (slice_index_or rows c []) u

-- each number in a row is the number of a row
abbrev pub AreRows : List (List ℕ) → Type 0
AreRows rows = All (λ row. All (λ u. u < length rows) row) rows

-- exactly the numbers that c reaches by one or more needs, rising
abbrev pub AreAncestors : List (List ℕ) → ℕ → List ℕ → Type 0
AreAncestors rows c = AreExactly (AncestorBy (RowNeeds rows) c)

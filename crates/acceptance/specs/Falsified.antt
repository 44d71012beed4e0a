-- Values that make clauses false.
use Rattle.std.specs.Prelude.{◌≡◌, ◌≤◌, ◌<◌, ℕ, Bool, true, false, not, ◌||◌, ◌==◌, List, length, slice_index, Option, Some, None, if◌then◌else◌}
use Rattle.std.specs.List.{list_all}
use Rattle.std.specs.Ordering.{nat_cmp, is_lt as is_less}
use Rattle.std.specs.Cmp.Lexicographic.{slice_cmp}
use Rattle.cca_base.specs.Sets.{has}
use Rattle.cca_base.specs.Estimates.{IsEarlier}
use Rattle.clause_form.specs.declared.clause.Literal.{Literal}
use Rattle.clause_form.specs.declared.clause.Clause.{Clause}
use Rattle.clause_form.specs.Clauses.{AreValues, is_met, all_met}

-- no literal is true where the subject has the value
abbrev pub is_free : List Literal → ℕ → ℕ → Bool
is_free literals subject value = list_all (λ l. not (l.subject == subject) || not (has l.values value)) literals

-- the least value of the subject with which no literal is true
pub record IsLeastFree (literals : List Literal) (subject size value : ℕ) : Type 0 where
  pub within : value < size
  pub free : is_free literals subject value ≡ true
  pub least : (other : ℕ) → other < value → is_free literals subject other ≡ false

-- values that make the clause false, each the least that does
pub record IsLeastFalse (sizes : List ℕ) (literals : List Literal) (xs : List ℕ) : Type 0 where
  pub values : AreValues sizes xs
  pub unmet : is_met xs literals ≡ false
  pub least : (ys : List ℕ) → AreValues sizes ys → is_met ys literals ≡ false → (i : ℕ) → i < length sizes → slice_index xs i ≤ slice_index ys i

-- the first values that make some clause false
pub record IsFirstFalse (sizes : List ℕ) (clauses : List Clause) (xs : List ℕ) : Type 0 where
  pub values : AreValues sizes xs
  pub unmet : all_met xs clauses ≡ false
  pub first : (ys : List ℕ) → AreValues sizes ys → all_met ys clauses ≡ false → IsEarlier ys xs → ⊥

-- the first values that make some clause false, or none where there are no such values
abbrev pub IsFirstOrNone : List ℕ → List Clause → Option (List ℕ) → Type 0
IsFirstOrNone sizes clauses None = (ys : List ℕ) → AreValues sizes ys → all_met ys clauses ≡ true
IsFirstOrNone sizes clauses (Some xs) = IsFirstFalse sizes clauses xs

-- the earlier of two, or the one that there is
abbrev pub first_of : Option (List ℕ) → Option (List ℕ) → Option (List ℕ)
first_of None new = new
first_of (Some xs) None = Some xs
first_of (Some xs) (Some ys) = if is_less (slice_cmp nat_cmp ys xs) then Some ys else Some xs

-- values that make the clause false, each the least that does, or none where there are no such values
abbrev pub LeastOrNone : List ℕ → List Literal → Option (List ℕ) → Type 0
LeastOrNone sizes literals None = (xs : List ℕ) → AreValues sizes xs → is_met xs literals ≡ true
LeastOrNone sizes literals (Some xs) = IsLeastFalse sizes literals xs

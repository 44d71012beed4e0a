-- What clauses say of values, one for each subject.
use Rattle.std.specs.Prelude.{◌≡◌, ◌==◌, ◌<◌, ◌||◌, ℕ, zero, suc, Bool, false, List, length, slice_index, take, All}
use Rattle.std.specs.List.{list_any, list_all}
use Rattle.cca_base.specs.Sets.{has}
use Rattle.clause_form.specs.declared.clause.Literal.{Literal}
use Rattle.clause_form.specs.declared.clause.Clause.{Clause}
use Rattle.clause_form.specs.declared.clause.Clauses.{Clauses}

-- a value for each subject
pub record AreValues (sizes xs : List ℕ) : Type 0 where
  pub full : length xs ≡ length sizes
  pub values : (i : ℕ) → i < length sizes → slice_index xs i < slice_index sizes i

-- the subject has one of the literal's values
abbrev pub is_true : List ℕ → Literal → Bool
is_true xs literal = has literal.values (slice_index xs literal.subject)

-- some literal is true
abbrev pub is_met : List ℕ → List Literal → Bool
is_met xs literals = list_any (is_true xs) literals

-- the clause is true
abbrev pub meets : List ℕ → Clause → Bool
meets xs clause = is_met xs clause.literals

-- every clause is true
abbrev pub all_met : List ℕ → List Clause → Bool
all_met xs clauses = list_all (meets xs) clauses

-- each subject is one of so many
abbrev pub AreBelow : ℕ → List Literal → Type 0
AreBelow n literals = All (λ literal. literal.subject < n) literals

-- each subject of each clause is one of so many
abbrev pub AllBelow : ℕ → List Clause → Type 0
AllBelow n clauses = All (λ clause. AreBelow n clause.literals) clauses

-- a literal of the clause is of a subject of the set
abbrev pub names_one : (ℕ → Bool) → Clause → Bool
names_one set clause = list_any (λ literal. set literal.subject) clause.literals

-- no literal is of this subject
abbrev pub AreOthers : ℕ → List Literal → Type 0
AreOthers x literals = All (λ literal. (literal.subject == x) ≡ false) literals

-- no clause names this subject
abbrev pub AllOthers : ℕ → List Clause → Type 0
AllOthers x clauses = All (λ clause. AreOthers x clause.literals) clauses

-- true exactly where one of the first so many literals is, or one of the others
abbrev pub AreMerged : List Literal → ℕ → List Literal → List Literal → Type 0
AreMerged literals count others merged = (xs : List ℕ) → is_met xs merged ≡ (is_met xs (take count literals) || is_met xs others)

-- some number below the size passes
abbrev pub any_below : ℕ → (ℕ → Bool) → Bool
any_below zero test = false
any_below (suc n) test = any_below n test || test n

-- each clause speaks of the subjects alone
abbrev pub AreClauses : Clauses → Type 0
AreClauses c = AllBelow (length c.sizes) c.clauses

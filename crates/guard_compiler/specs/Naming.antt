-- Which subjects a clause names.
use Rattle.std.specs.Prelude.{◌≤◌, ℕ, Bool, IsTrue, All}
use Rattle.clause_form.specs.declared.clause.Clause.{Clause}

-- each variable of the clause is in the set; the variables are the subjects from n on
abbrev pub IsOver : ℕ → (ℕ → Bool) → Clause → Type 0
IsOver n set clause = All (λ literal. n ≤ literal.subject → IsTrue (set literal.subject)) clause.literals

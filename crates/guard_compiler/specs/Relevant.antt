-- Which of the rules' clauses bear on a guard.
use Rattle.std.specs.Prelude.{◌≡◌, ℕ, Bool, IsTrue, List, ◌++◌, Option, Some, None, All, filter}
use Rattle.clause_form.specs.declared.clause.Clause.{Clause}
use Rattle.guard_compiler.specs.Naming.{IsOver}
use Rattle.clause_form.specs.Clauses.{names_one}
use Rattle.guard_compiler.specs.Rules.{clauses_in}
use Rattle.guard_compiler.specs.declared.rules.RuleClause.{RuleClause}

-- by its owner: the owner is one of the set; without an owner, the clause names one of the set
abbrev pub bears_by : (ℕ → Bool) → Option ℕ → Clause → Bool
bears_by set None clause = names_one set clause
bears_by set (Some x) clause = set x

-- the rule's clause bears on the subjects of the set
abbrev pub bears : (ℕ → Bool) → RuleClause → Bool
bears set rule = bears_by set rule.owner rule.clause

-- each of the rules' clauses that bears on the set has all its variables in the set
abbrev pub IsClosed : ℕ → List RuleClause → (ℕ → Bool) → Type 0
IsClosed n rules set = All (λ rule. IsTrue (bears set rule) → IsOver n set rule.clause) rules

-- the set has the variables of the guard's clauses, and of each of the rules' that bears on it
pub record IsRelevantSet (n : ℕ) (rules : List RuleClause) (guard : List Clause) (set : ℕ → Bool) : Type 0 where
  pub of_guard : All (IsOver n set) guard
  pub closed : IsClosed n rules set

-- behind the guard's clauses exactly those of the rules that bear on such a set
pub record IsWithRelevant (n : ℕ) (rules : List RuleClause) (guard all : List Clause) : Type 0 where
  pub set : ℕ → Bool
  pub relevant : IsRelevantSet n rules guard set
  pub are : all ≡ guard ++ clauses_in (filter (bears set) rules)

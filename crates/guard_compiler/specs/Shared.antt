-- Clauses that are shared out among variables.
use Rattle.std.specs.Prelude.{◌≡◌, ◌<◌, ◌≤◌, ◌++◌, ℕ, Bool, MatchBool, List, length, map, Some, None, All}
use Rattle.std.specs.Option.{ForSome, IsSome}
use Rattle.clause_form.specs.declared.clause.Clause.{Clause}
use Rattle.clause_form.specs.Clauses.{AllBelow, all_met}
use Rattle.guard_compiler.specs.Rules.{AreCompletable, AreRulesBelow, clauses_in}
use Rattle.guard_compiler.specs.declared.rules.RuleClause.{RuleClause}

-- the clauses as nobody's
abbrev pub unowned : List Clause → List RuleClause
unowned clauses = map (λ c. record { owner = None; clause = c }) clauses

-- the clauses as those of x
abbrev pub owned_by : ℕ → List Clause → List RuleClause
owned_by x clauses = map (λ c. record { owner = Some x; clause = c }) clauses

-- the given clauses are true exactly where these are; the owners are variables, which are the subjects from n on, and their values can be chosen
pub record AreShared (sizes : List ℕ) (n : ℕ) (given : List Clause) (rules : List RuleClause) : Type 0 where
  pub subjects : AreRulesBelow (length sizes) rules
  pub owners : All (λ rule. ForSome rule.owner (λ x. n ≤ x)) rules
  pub met : (xs : List ℕ) → all_met xs (clauses_in rules) ≡ all_met xs given
  pub completable : AreCompletable sizes n rules

-- the first clauses have owners, and the others have none yet
pub record AreSharedOut (sizes : List ℕ) (n : ℕ) (given : List Clause) (rules : List RuleClause) (left : List Clause) : Type 0 where
  pub owned : All (λ rule. IsSome rule.owner) rules
  pub shared : AreShared sizes n given (rules ++ unowned left)

-- a trial of owners: clauses over the same subjects are left, fewer where some were moved, and whatever was shared out still is
pub record IsTrial (sizes : List ℕ) (n : ℕ) (old_rules : List RuleClause) (old : List Clause) (rules : List RuleClause) (left : List Clause) (found : Bool) : Type 0 where
  pub below : AllBelow (length sizes) left
  pub fewer : MatchBool found (length left < length old) (left ≡ old)
  pub shared : (given : List Clause) → AreSharedOut sizes n given old_rules old → AreSharedOut sizes n given rules left

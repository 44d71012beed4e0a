-- The clauses of a model's rules, some of which belong to a variable whose value can be chosen for them.
use Rattle.std.specs.Prelude.{◌≡◌, ◌≤◌, ◌<◌, ◌⊎◌, ◌++◌, ℕ, Bool, true, false, not, is_some, IsTrue, List, length, map, Option, Some, None, All, Contains, slice_index}
use Rattle.std.specs.List.{list_all}
use Rattle.std.specs.Option.{ForSome}
use Rattle.cca_base.specs.PlantModel.{PlantModel}
use Rattle.cca_base.specs.Model.{mode_counts, value_counts}
use Rattle.cca_base.specs.Formula.{truth}
use Rattle.clause_form.specs.declared.clause.Clause.{Clause}
use Rattle.clause_form.specs.Clauses.{AreValues, AreBelow, all_met, meets}
use Rattle.guard_compiler.specs.Naming.{IsOver}
use Rattle.guard_compiler.specs.declared.rules.RuleClause.{RuleClause}

-- the clauses without their owners
abbrev pub clauses_in : List RuleClause → List Clause
clauses_in rules = map (λ rule. rule.clause) rules

-- each subject of each clause is one of so many, and so is each owner
abbrev pub AreRulesBelow : ℕ → List RuleClause → Type 0
AreRulesBelow count rules = All (λ rule. AreBelow count rule.clause.literals × ForSome rule.owner (λ x. x < count)) rules

-- the clause has no owner
abbrev pub is_unowned : RuleClause → Bool
is_unowned rule = not (is_some rule.owner)

-- the owner is one of the set
abbrev pub is_one_of : (ℕ → Bool) → Option ℕ → Bool
is_one_of set None = false
is_one_of set (Some x) = set x

-- there is no owner, or it is one of the set
abbrev pub is_none_or_one_of : (ℕ → Bool) → Option ℕ → Bool
is_none_or_one_of set None = true
is_none_or_one_of set (Some x) = set x

-- the two lists of values differ at owners outside the set alone
abbrev pub DifferAtOwners : (ℕ → Bool) → List RuleClause → List ℕ → List ℕ → Type 0
DifferAtOwners set rules xs ys = (u : ℕ) → (slice_index ys u ≡ slice_index xs u)
    ⊎ ((set u ≡ false) × ((rule : RuleClause) × Contains rules rule × (rule.owner ≡ Some u)))

-- for any set of subjects: if the clauses without an owner are true, and those whose owner is in the set, and the latter have no variable outside it, then other values of owners outside the set make all clauses true
abbrev pub AreCompletable : List ℕ → ℕ → List RuleClause → Type 0
AreCompletable sizes n rules = (set : ℕ → Bool) (xs : List ℕ) → AreValues sizes xs
    → All (λ rule. IsTrue (is_none_or_one_of set rule.owner) → IsTrue (meets xs rule.clause)) rules
    → All (λ rule. IsTrue (is_one_of set rule.owner) → IsOver n set rule.clause) rules
    → (ys : List ℕ) × AreValues sizes ys × DifferAtOwners set rules xs ys × IsTrue (all_met ys (clauses_in rules))

-- clauses over the components and then the variables, which are all true exactly where every rule is; the owners are variables, and their values can be chosen
pub record AreRulesOf (m : PlantModel) (rules : List RuleClause) : Type 0 where
  pub subjects : AreRulesBelow (length (mode_counts m ++ value_counts m)) rules
  pub owners : All (λ rule. ForSome rule.owner (λ x. length m.components ≤ x)) rules
  pub meaning : (modes values : List ℕ) → AreValues (mode_counts m) modes → AreValues (value_counts m) values
      → all_met (modes ++ values) (clauses_in rules) ≡ list_all (truth modes values) m.rules
  pub completable : AreCompletable (mode_counts m ++ value_counts m) (length m.components) rules

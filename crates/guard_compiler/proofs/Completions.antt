-- What can be completed: values of the components, with those of the variables behind them, get other values of owners.
use Rattle.std.proofs.Common.{◌≡◌, ℕ, ◌≤◌, true, Bool, List, ◌++◌, length, get_or, drop, Option, Some, All, Contains, inl, inr, sym, ap, subst, ◌∙◌, arith}
use Rattle.std.specs.Option.{ForSome}
use Rattle.std.proofs.lemmas.Bool.{false≢true}
use Rattle.std.proofs.lemmas.List.{length-append}
use Rattle.std.proofs.lemmas.List.Folds.{list_all-map}
use Rattle.std.proofs.lemmas.List.Sums.{AllPass-from_list_all}
use Rattle.std.proofs.lemmas.List.Elements.{All-contains}
use Rattle.list_laws.proofs.Members.{all_from}
use Rattle.prime_implicants.proofs.FoundKeys.{list_all_if}
use Rattle.clause_form.specs.Clauses.{AreValues, meets, all_met}
use Rattle.elimination.proofs.KeptSubjects.{rest_of_values, same_front}
use Rattle.guard_compiler.specs.Naming.{IsOver}
use Rattle.guard_compiler.specs.Rules.{clauses_in, is_one_of, is_none_or_one_of, AreCompletable, DifferAtOwners}
use Rattle.guard_compiler.specs.declared.rules.RuleClause.{RuleClause}

-- ---- one clause of several

pub met_one : (xs : List ℕ) (rules : List RuleClause) (rule : RuleClause) → all_met xs (clauses_in rules) ≡ true → Contains rules rule → meets xs rule.clause ≡ true
met_one xs rules rule h there = All-contains (λ r. meets xs r.clause ≡ true) rules rule
    (AllPass-from_list_all (λ r. meets xs r.clause) rules (sym (list_all-map (meets xs) (λ r. r.clause) rules) ∙ h)) there

pub all_of_them : (xs : List ℕ) (rules : List RuleClause) → ((rule : RuleClause) → Contains rules rule → meets xs rule.clause ≡ true) → all_met xs (clauses_in rules) ≡ true
all_of_them xs rules h = list_all-map (meets xs) (λ r. r.clause) rules ∙ list_all_if (λ r. meets xs r.clause) rules h

-- ---- values of the components, and behind them those of the variables

not_below : (n u : ℕ) (owner : Option ℕ) → ForSome owner (λ x. n ≤ x) → owner ≡ Some u → n ≤ u
not_below n u owner h e = h u e

module _ (n : ℕ) (rules : List RuleClause) (counts sizes s z : List ℕ) (set : ℕ → Bool) (full : length s ≡ n) (state : AreValues counts s) (values : AreValues (counts ++ sizes) (s ++ z))
    (owners : All (λ rule. ForSome rule.owner (λ x. n ≤ x)) rules) (completable : AreCompletable (counts ++ sizes) n rules)
    (held : (rule : RuleClause) → Contains rules rule → is_none_or_one_of set rule.owner ≡ true → meets (s ++ z) rule.clause ≡ true)
    (owned : (rule : RuleClause) → Contains rules rule → is_one_of set rule.owner ≡ true → IsOver n set rule.clause) where
  completed : (ys : List ℕ) × AreValues (counts ++ sizes) ys × DifferAtOwners set rules (s ++ z) ys × (all_met ys (clauses_in rules) ≡ true)
  completed = completable set (s ++ z) values (all_from (λ rule. is_none_or_one_of set rule.owner ≡ true → meets (s ++ z) rule.clause ≡ true) rules held)
      (all_from (λ rule. is_one_of set rule.owner ≡ true → IsOver n set rule.clause) rules owned)

  abbrev ys : List ℕ
  ys = completed.0

  -- what the set has, and the components, are as they were
  kept : (u : ℕ) → (n ≤ u → set u ≡ true) → get_or ys u 0 ≡ get_or (s ++ z) u 0
  kept u h = elim (completed.2 u) [
    | inl same ↦ same
    | inr other ↦ absurd (false≢true (sym other.0 ∙ h (not_below n u other.1.0.owner (All-contains (λ r. ForSome r.owner (λ x. n ≤ x)) rules other.1.0 owners other.1.1) other.1.2)))
  ]

  whole : ys ≡ s ++ drop n ys
  whole = same_front n s z ys full (λ u below. kept u (λ above. absurd (omega (arith, below, above)))) (omega (arith, completed.1.full, values.full, length-append s z, full))

  pub completed_world : (y : List ℕ) × AreValues sizes y × ((u : ℕ) → (n ≤ u → set u ≡ true) → get_or (s ++ y) u 0 ≡ get_or (s ++ z) u 0) × (all_met (s ++ y) (clauses_in rules) ≡ true)
  completed_world = (
    drop n ys,
    rest_of_values counts sizes s (drop n ys) state.full (subst (AreValues (counts ++ sizes)) whole completed.1),
    (λ u h. ap (λ xs. get_or xs u 0) (sym whole) ∙ kept u h),
    subst (λ xs. all_met xs (clauses_in rules) ≡ true) whole completed.3,
  )

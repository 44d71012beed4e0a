-- Marks that are set one by one.
use Rattle.std.proofs.Common.{◌≡◌, ◌<◌, ◌≤◌, ◌+◌, ℕ, Bool, true, false, List, length, take, get_or, set, All, MatchBool, refl, sym, ap, subst, ◌∙◌, arith}
use Rattle.std.proofs.lemmas.Bool.{both_ways}
use Rattle.std.proofs.lemmas.List.{get_or-set_same, length-set, take_more, take_all}
use Rattle.std.proofs.lemmas.List.Elements.{All-push, All-weaker}
use Rattle.std.specs.Option.{ForSome}
use Rattle.clause_form.specs.Clauses.{AreBelow}
use Rattle.clause_form.specs.declared.clause.Clause.{Clause}
use Rattle.clause_form.specs.declared.clause.Literal.{Literal}
use Rattle.guard_compiler.specs.Naming.{IsOver}
use Rattle.guard_compiler.specs.Relevant.{IsClosed, bears}
use Rattle.guard_compiler.specs.Rules.{AreRulesBelow}
use Rattle.guard_compiler.specs.declared.rules.RuleClause.{RuleClause}
use Rattle.guard_compiler.specs.Marks.{SetsMore}
use Rattle.cca_base.specs.Flags.{is_set, unset}
use Rattle.cca_base.proofs.FlagLaws.{set_kept, fewer_unset}

pub keeps_same : (marks : List Bool) → SetsMore marks marks
keeps_same marks = record { full = refl; kept = λ u h. h }

keeps_set : (old now : List Bool) (u : ℕ) → SetsMore old now → SetsMore old (set now u true)
keeps_set old now u k = record { full = length-set now u true ∙ k.full; kept = λ w h. set_kept now u w (k.kept w h) }

keeps_more : (a b c : List Bool) → SetsMore a b → SetsMore b c → SetsMore a c
keeps_more a b c k l = record { full = l.full ∙ k.full; kept = λ u h. l.kept u (k.kept u h) }

-- what has only marked variables still has
over_kept : (n : ℕ) (old new : List Bool) (clause : Clause) → SetsMore old new → IsOver n (is_set old) clause → IsOver n (is_set new) clause
over_kept n old new clause k = All-weaker (λ (l : Literal). n ≤ l.subject → is_set old l.subject ≡ true) (λ l. n ≤ l.subject → is_set new l.subject ≡ true) (λ l h v. k.kept l.subject (h v)) clause.literals

-- one element more
all_more : {X : Type 0} (P : X → Type 0) (xs : List X) (i : ℕ) (x : X) → i < length xs → x ≡ get_or xs i x → All P (take i xs) → P x → All P (take (i + 1) xs)
all_more P xs i x within is h p = subst (All P) (sym (take_more xs i x within)) (All-push P (take i xs) (get_or xs i x) h (subst P is p))

-- what marking the variables of the literals before place i has made
pub record IsMarkedTo (n : ℕ) (literals : List Literal) (old now : List Bool) (fresh : Bool) (i : ℕ) : Type 0 where
  pub keeps : SetsMore old now
  pub over : All (λ l. n ≤ l.subject → is_set now l.subject ≡ true) (take i literals)
  pub fresh_is : MatchBool fresh (unset now < unset old) (now ≡ old)

not_more : (b : Bool) (old now : List Bool) → MatchBool b (unset now < unset old) (now ≡ old) → unset now ≤ unset old
not_more true old now lt = omega arith
not_more false old now e = omega (arith, ap unset e)

module _ (n : ℕ) (literals : List Literal) (old now : List Bool) (fresh : Bool) (i : ℕ) (l : Literal) (h : IsMarkedTo n literals old now fresh i) (within : i < length literals) (is : l ≡ get_or literals i l) where
  pub marked_new : n ≤ l.subject → l.subject < length now → get_or now l.subject false ≡ false → IsMarkedTo n literals old (set now l.subject true) true (i + 1)
  marked_new above below was = record {
    keeps = keeps_set old now l.subject h.keeps;
    over = all_more (λ (x : Literal). n ≤ x.subject → is_set (set now l.subject true) x.subject ≡ true) literals i l within is
        (All-weaker (λ (x : Literal). n ≤ x.subject → is_set now x.subject ≡ true) (λ (x : Literal). n ≤ x.subject → is_set (set now l.subject true) x.subject ≡ true)
        (λ x k v. set_kept now l.subject x.subject (k v)) (take i literals) h.over)
        (λ v. get_or-set_same now l.subject true false below);
    fresh_is = omega (arith, fewer_unset now l.subject below was, not_more fresh old now h.fresh_is);
  }

  pub marked_old : (n ≤ l.subject → get_or now l.subject false ≡ true) → IsMarkedTo n literals old now fresh (i + 1)
  marked_old was = record {
    keeps = h.keeps;
    over = all_more (λ l. n ≤ l.subject → is_set now l.subject ≡ true) literals i l within is h.over was;
    fresh_is = h.fresh_is;
  }

-- what marking the variables of the clauses before place i has made
pub record AreMarkedTo (n : ℕ) (clauses : List Clause) (old now : List Bool) (i : ℕ) : Type 0 where
  pub keeps : SetsMore old now
  pub over : All (IsOver n (is_set now)) (take i clauses)

pub all_marked_more : (n : ℕ) (clauses : List Clause) (old now new : List Bool) (i : ℕ) (clause : Clause) → AreMarkedTo n clauses old now i → i < length clauses → clause ≡ get_or clauses i clause
    → SetsMore now new → IsOver n (is_set new) clause → AreMarkedTo n clauses old new (i + 1)
all_marked_more n clauses old now new i clause h within is keeps over = record {
  keeps = keeps_more old now new h.keeps keeps;
  over = all_more (IsOver n (is_set new)) clauses i clause within is
      (All-weaker (IsOver n (is_set now)) (IsOver n (is_set new)) (λ c k. over_kept n now new c keeps k) (take i clauses) h.over) over;
}

-- what is asked of all rules, of one of them
pub one_rule_below : (rules : List RuleClause) (old now : List Bool) (i : ℕ) (rule : RuleClause) → AreRulesBelow (length old) rules → SetsMore old now → i < length rules → rule ≡ get_or rules i rule
    → AreBelow (length now) rule.clause.literals × ForSome rule.owner (λ x. x < length now)
one_rule_below rules old now i rule h k within is =
    subst (λ count. AreBelow count rule.clause.literals × ForSome rule.owner (λ x. x < count)) (sym k.full)
    (subst (λ (r : RuleClause). AreBelow (length old) r.clause.literals × ForSome r.owner (λ x. x < length old)) (sym is) (h i rule within))

-- what the rules before place i have made of the marks
pub record IsSpreadTo (n : ℕ) (rules : List RuleClause) (old now : List Bool) (fresh : Bool) (i : ℕ) : Type 0 where
  pub keeps : SetsMore old now
  pub fresh_is : MatchBool fresh (unset now < unset old) ((now ≡ old) × IsClosed n (take i rules) (is_set old))

module _ (n : ℕ) (rules : List RuleClause) (old now : List Bool) (fresh : Bool) (i : ℕ) (rule : RuleClause) (h : IsSpreadTo n rules old now fresh i) (within : i < length rules) (is : rule ≡ get_or rules i rule) where
  abbrev Closes : RuleClause → Type 0
  Closes r = bears (is_set old) r ≡ true → IsOver n (is_set old) r.clause

  fewer : (b : Bool) (new : List Bool) → MatchBool b (unset now < unset old) ((now ≡ old) × IsClosed n (take i rules) (is_set old)) → unset new < unset now → unset new < unset old
  fewer true new was lt = omega arith
  fewer false new was lt = omega (arith, ap unset was.0)

  same : (b : Bool) → MatchBool b (unset now < unset old) ((now ≡ old) × IsClosed n (take i rules) (is_set old)) → (bears (is_set now) rule ≡ true → IsOver n (is_set now) rule.clause)
      → MatchBool b (unset now < unset old) ((now ≡ old) × IsClosed n (take (i + 1) rules) (is_set old))
  same true was over = was
  same false was over = (was.0, all_more Closes rules i rule within is was.1 (subst (λ z. bears (is_set z) rule ≡ true → IsOver n (is_set z) rule.clause) was.0 over))

  pub spread_no : bears (is_set now) rule ≡ false → IsSpreadTo n rules old now fresh (i + 1)
  spread_no none = record { keeps = h.keeps; fresh_is = same fresh h.fresh_is (λ one. absurd (both_ways (bears (is_set now) rule) none one)) }

  pub spread_new : (new : List Bool) → SetsMore now new → MatchBool true (unset new < unset now) (new ≡ now) → IsSpreadTo n rules old new true (i + 1)
  spread_new new keeps lt = record { keeps = keeps_more old now new h.keeps keeps; fresh_is = fewer fresh new h.fresh_is lt }

  pub spread_same : (new : List Bool) → IsOver n (is_set new) rule.clause → MatchBool false (unset new < unset now) (new ≡ now) → IsSpreadTo n rules old new fresh (i + 1)
  spread_same new over e = subst (λ z. IsSpreadTo n rules old z fresh (i + 1)) (sym e)
      (record { keeps = h.keeps; fresh_is = same fresh h.fresh_is (λ one. subst (λ z. IsOver n (is_set z) rule.clause) e over) })

pub spread_all : (n : ℕ) (rules : List RuleClause) (old now : List Bool) (fresh : Bool) (i : ℕ) → length rules ≤ i → IsSpreadTo n rules old now fresh i
    → MatchBool fresh (unset now < unset old) ((now ≡ old) × IsClosed n rules (is_set old))
spread_all n rules old now fresh i all h = subst (λ z. MatchBool fresh (unset now < unset old) ((now ≡ old) × IsClosed n z (is_set old))) (take_all i rules all) h.fresh_is

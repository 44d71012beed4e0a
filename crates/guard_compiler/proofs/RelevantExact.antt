-- Values that make the guard's and all rules' clauses true, where the relevant ones alone can be met.
use Rattle.std.proofs.Common.{◌≡◌, ℕ, zero, suc, ◌<◌, ◌≤◌, ◌+◌, ◌-◌, ◌↔◌, ◌||◌, ◌&&◌, Bool, true, false, cond, List, [], ◌∷◌, ◌++◌, length, get_or, filter, Option, Some, None, All, Contains, inl, inr, refl, sym, ap, subst, ◌∙◌, arith}
use Rattle.std.specs.List.{list_any}
use Rattle.std.specs.Option.{ForSome}
use Rattle.std.proofs.lemmas.Bool.{cases_lt, cases_Bool, and_parts, and_from, false≢true, or_parts}
use Rattle.std.proofs.lemmas.List.{get_or_append_left, get_or-append-add}
use Rattle.std.proofs.lemmas.List.Folds.{list_all-append}
use Rattle.std.proofs.lemmas.List.Elements.{All-contains}
use Rattle.list_laws.proofs.Members.{from_filter, to_filter}
use Rattle.cca_base.specs.Sets.{has}
use Rattle.clause_form.proofs.ModelSizes.{both_values}
use Rattle.clause_form.specs.declared.clause.Literal.{Literal}
use Rattle.clause_form.specs.declared.clause.Clause.{Clause}
use Rattle.clause_form.specs.Clauses.{AreValues, is_true, is_met, meets, all_met, names_one}
use Rattle.guard_compiler.proofs.Completions.{met_one, all_of_them, completed_world}
use Rattle.guard_compiler.specs.Naming.{IsOver}
use Rattle.guard_compiler.specs.Relevant.{bears, bears_by, IsWithRelevant}
use Rattle.guard_compiler.specs.Rules.{clauses_in, is_one_of, is_none_or_one_of, AreCompletable}
use Rattle.guard_compiler.specs.declared.rules.RuleClause.{RuleClause}

-- ---- values of two lists, by a set

-- the first list's where the set has the place, and else the second's
mix : (ℕ → Bool) → List ℕ → List ℕ → List ℕ
mix set [] ys = []
mix set (x ∷ xs) [] = []
mix set (x ∷ xs) (y ∷ ys) = cond (set zero) x y ∷ mix (λ i. set (suc i)) xs ys

cond_same : {X : Type 0} (b : Bool) (x : X) → x ≡ cond b x x
cond_same true x = refl
cond_same false x = refl

length-mix : (set : ℕ → Bool) (xs ys : List ℕ) → length xs ≡ length ys → length (mix set xs ys) ≡ length xs
unfolding mix
length-mix set [] ys e = refl
length-mix set (x ∷ xs) [] e = absurd (omega (arith, e))
length-mix set (x ∷ xs) (y ∷ ys) e = omega (arith, length-mix (λ i. set (suc i)) xs ys (omega (arith, e)))

mixed : (set : ℕ → Bool) (xs ys : List ℕ) (i : ℕ) → length xs ≡ length ys → get_or (mix set xs ys) i 0 ≡ cond (set i) (get_or xs i 0) (get_or ys i 0)
unfolding mix
mixed set [] [] i e = cond_same (set i) 0
mixed set [] (y ∷ ys) i e = absurd (omega (arith, e))
mixed set (x ∷ xs) [] i e = absurd (omega (arith, e))
mixed set (x ∷ xs) (y ∷ ys) zero e = refl
mixed set (x ∷ xs) (y ∷ ys) (suc i) e = mixed (λ k. set (suc k)) xs ys i (omega (arith, e))

less_cond : (b : Bool) (x y k : ℕ) → x < k → y < k → cond b x y < k
less_cond true x y k h l = h
less_cond false x y k h l = l

mixed_values : (set : ℕ → Bool) (sizes xs ys : List ℕ) → AreValues sizes xs → AreValues sizes ys → AreValues sizes (mix set xs ys)
mixed_values set sizes xs ys h k =
    let same : length xs ≡ length ys = h.full ∙ sym k.full in
    record {
      full = length-mix set xs ys same ∙ h.full;
      values = λ i l. subst (λ z. z < get_or sizes i 0) (sym (mixed set xs ys i same)) (less_cond (set i) (get_or xs i 0) (get_or ys i 0) (get_or sizes i 0) (h.values i l) (k.values i l));
    }

-- ---- clauses that are true alike

module _ (xs ys : List ℕ) (n : ℕ) (set : ℕ → Bool) where
  abbrev InSet : Literal → Type 0
  InSet l = n ≤ l.subject → set l.subject ≡ true

  over_met : ((u : ℕ) → (n ≤ u → set u ≡ true) → get_or xs u 0 ≡ get_or ys u 0) → (literals : List Literal) → All InSet literals → is_met xs literals ≡ is_met ys literals
  over_met same [] h = refl
  over_met same (l ∷ literals) h =
      ap (λ v. has l.values v || is_met xs literals) (same l.subject (h zero l (omega arith)))
      ∙ ap (λ b. is_true ys l || b) (over_met same literals (λ k d within. h (suc k) d (omega arith)))

  all_over : ((u : ℕ) → (n ≤ u → set u ≡ true) → get_or xs u 0 ≡ get_or ys u 0) → (clauses : List Clause) → All (IsOver n set) clauses → all_met xs clauses ≡ all_met ys clauses
  all_over same [] h = refl
  all_over same (c ∷ clauses) h =
      ap (λ b. b && all_met xs clauses) (over_met same c.literals (h zero c (omega arith)))
      ∙ ap (λ b. meets ys c && b) (all_over same clauses (λ k d within. h (suc k) d (omega arith)))

  apart_met : ((u : ℕ) → set u ≡ false → get_or xs u 0 ≡ get_or ys u 0) → (literals : List Literal) → list_any (λ l. set l.subject) literals ≡ false → is_met xs literals ≡ is_met ys literals
  apart_met same [] h = refl
  apart_met same (l ∷ literals) h =
      let parts = or_parts (set l.subject) (list_any (λ l. set l.subject) literals) h in
      ap (λ v. has l.values v || is_met xs literals) (same l.subject parts.0)
      ∙ ap (λ b. is_true ys l || b) (apart_met same literals parts.1)

-- some values of the variables make all clauses true
abbrev pub CanMeet : List ℕ → List ℕ → List Clause → Type 0
CanMeet sizes s clauses = (w : List ℕ) × AreValues sizes w × (all_met (s ++ w) clauses ≡ true)

some_of_them : (set : ℕ → Bool) (xs : List ℕ) (rules : List RuleClause) → all_met xs (clauses_in rules) ≡ true → all_met xs (clauses_in (filter (bears set) rules)) ≡ true
some_of_them set xs rules h = all_of_them xs (filter (bears set) rules) (λ rule there. met_one xs rules rule h (from_filter (bears set) rules rule there).1)

-- a clause of an owner in the set bears on it
owned_bears : (set : ℕ → Bool) (owner : Option ℕ) (clause : Clause) → is_one_of set owner ≡ true → bears_by set owner clause ≡ true
owned_bears set None clause h = absurd cc
owned_bears set (Some x) clause h = h

-- a clause that is to be true and does not bear on the set names none of it
names_none : (set : ℕ → Bool) (owner : Option ℕ) (clause : Clause) → is_none_or_one_of set owner ≡ true → bears_by set owner clause ≡ false → names_one set clause ≡ false
names_none set None clause h k = k
names_none set (Some x) clause h k = absurd (false≢true (sym k ∙ h))

module _ (n : ℕ) (rules : List RuleClause) (guard all : List Clause) (with : IsWithRelevant n rules guard all) (counts sizes s v : List ℕ) (full : length s ≡ n) (state : AreValues counts s) (values : AreValues sizes v)
    (owners : All (λ rule. ForSome rule.owner (λ x. n ≤ x)) rules) (completable : AreCompletable (counts ++ sizes) n rules) (world : all_met (s ++ v) (clauses_in rules) ≡ true) where
  module _ (w : List ℕ) (k : AreValues sizes w) where
    abbrev z : List ℕ
    z = mix (λ i. with.set (n + i)) w v

    long : length w ≡ length v
    long = k.full ∙ sym values.full

    -- what the set has is as in the one
    as_one : (u : ℕ) → (n ≤ u → with.set u ≡ true) → get_or (s ++ z) u 0 ≡ get_or (s ++ w) u 0
    as_one u h = elim (cases_lt u n) [
      | inl below ↦ get_or_append_left s z 0 u (omega (arith, full, below)) ∙ sym (get_or_append_left s w 0 u (omega (arith, full, below)))
      | inr past ↦
          let j : ℕ = u - n in
          let is : u ≡ length s + j = omega (arith, full, past) in
          let there : with.set (n + j) ≡ true = subst (λ x. with.set x ≡ true) (let e : u ≡ n + j = omega (arith, past) in e) (h past) in
          ap (λ x. get_or (s ++ z) x 0) is ∙ get_or-append-add s z j 0 ∙ mixed (λ i. with.set (n + i)) w v j long ∙ ap (λ b. cond b (get_or w j 0) (get_or v j 0)) there
          ∙ sym (ap (λ x. get_or (s ++ w) x 0) is ∙ get_or-append-add s w j 0)
    ]

    -- and what it has not as in the other
    as_other : (u : ℕ) → with.set u ≡ false → get_or (s ++ z) u 0 ≡ get_or (s ++ v) u 0
    as_other u h = elim (cases_lt u n) [
      | inl below ↦ get_or_append_left s z 0 u (omega (arith, full, below)) ∙ sym (get_or_append_left s v 0 u (omega (arith, full, below)))
      | inr past ↦
          let j : ℕ = u - n in
          let is : u ≡ length s + j = omega (arith, full, past) in
          let there : with.set (n + j) ≡ false = subst (λ x. with.set x ≡ false) (let e : u ≡ n + j = omega (arith, past) in e) h in
          ap (λ x. get_or (s ++ z) x 0) is ∙ get_or-append-add s z j 0 ∙ mixed (λ i. with.set (n + i)) w v j long ∙ ap (λ b. cond b (get_or w j 0) (get_or v j 0)) there
          ∙ sym (ap (λ x. get_or (s ++ v) x 0) is ∙ get_or-append-add s v j 0)
    ]

    z_values : AreValues (counts ++ sizes) (s ++ z)
    z_values = both_values counts sizes s z state (mixed_values (λ i. with.set (n + i)) sizes w v k values)

    module _ (chosen : all_met (s ++ w) (clauses_in (filter (bears with.set) rules)) ≡ true) where
      -- the clauses that bear on the set are true of the mixed values
      bearing : (rule : RuleClause) → Contains rules rule → bears with.set rule ≡ true → meets (s ++ z) rule.clause ≡ true
      bearing rule there h =
          let over = All-contains (λ r. bears with.set r ≡ true → IsOver n with.set r.clause) rules rule with.relevant.closed there h in
          over_met (s ++ z) (s ++ w) n with.set as_one rule.clause.literals over ∙ met_one (s ++ w) (filter (bears with.set) rules) rule chosen (to_filter (bears with.set) rules rule h there)

      held : (rule : RuleClause) → Contains rules rule → is_none_or_one_of with.set rule.owner ≡ true → meets (s ++ z) rule.clause ≡ true
      held rule there h = elim (cases_Bool (bears with.set rule)) [
        | inl does ↦ bearing rule there does
        | inr doesnt ↦ apart_met (s ++ z) (s ++ v) n with.set as_other rule.clause.literals (names_none with.set rule.owner rule.clause h doesnt) ∙ met_one (s ++ v) rules rule world there
      ]

      owned : (rule : RuleClause) → Contains rules rule → is_one_of with.set rule.owner ≡ true → IsOver n with.set rule.clause
      owned rule there h = All-contains (λ r. bears with.set r ≡ true → IsOver n with.set r.clause) rules rule with.relevant.closed there (owned_bears with.set rule.owner rule.clause h)

      completed : (y : List ℕ) × AreValues sizes y × ((u : ℕ) → (n ≤ u → with.set u ≡ true) → get_or (s ++ y) u 0 ≡ get_or (s ++ z) u 0) × (all_met (s ++ y) (clauses_in rules) ≡ true)
      completed = completed_world n rules counts sizes s z with.set full state z_values owners completable held owned

      guard_met : all_met (s ++ w) guard ≡ true → all_met (s ++ completed.0) guard ≡ true
      guard_met met = all_over (s ++ completed.0) (s ++ z) n with.set completed.2 guard with.relevant.of_guard ∙ all_over (s ++ z) (s ++ w) n with.set as_one guard with.relevant.of_guard ∙ met

  -- where the rules can be met, the relevant clauses can be met beside the guard's exactly where all rules' can
  pub relevant_exact : CanMeet sizes s all ↔ ((w : List ℕ) × AreValues sizes w × (all_met (s ++ w) (clauses_in rules) ≡ true) × (all_met (s ++ w) guard ≡ true))
  relevant_exact =
      let chosen = clauses_in (filter (bears with.set) rules) in (
        λ h. (let parts = and_parts (all_met (s ++ h.0) guard) (all_met (s ++ h.0) chosen) (sym (ap (all_met (s ++ h.0)) with.are ∙ list_all-append (meets (s ++ h.0)) guard chosen) ∙ h.2) in
            let y = completed h.0 h.1 parts.1 in
            (y.0, y.1, y.3, guard_met h.0 h.1 parts.1 parts.0)),
        λ h. (
          h.0,
          h.1,
          ap (all_met (s ++ h.0)) with.are ∙ list_all-append (meets (s ++ h.0)) guard chosen
              ∙ and_from (all_met (s ++ h.0) guard) (all_met (s ++ h.0) chosen) h.3 (some_of_them with.set (s ++ h.0) rules h.2),
        ),
      )

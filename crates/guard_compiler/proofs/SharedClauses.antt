-- Clauses that are shared out among variables.
use Rattle.std.proofs.Common.{◌≡◌, ◌≢◌, ◌==◌, ◌<◌, ◌≤◌, ◌++◌, ◌&&◌, ◌||◌, ℕ, zero, suc, Bool, true, false, not, cond, List, [], ◌∷◌, length, map, filter, get_or, set, Option, Some, None, All, Contains, MatchBool, inl, inr, refl, sym, ap, subst, ◌∙◌, arith, eq-eqb}
use Rattle.std.specs.List.{list_any, list_all}
use Rattle.std.specs.Option.{ForSome, IsSome}
use Rattle.std.proofs.lemmas.Bool.{cases_Bool, cases_eq, both_ways, false≢true, and_parts, or_parts}
use Rattle.std.proofs.lemmas.List.{get_or-set_same, get_or-set_other, length-set}
use Rattle.std.proofs.lemmas.List.Elements.{All-append, All-map, All-filter, All-weaker, All-contains, Contains-append_left, Contains-append_right, Contains-append_cases}
use Rattle.std.proofs.lemmas.List.Folds.{list_all-append, list_all-map}
use Rattle.std.proofs.lemmas.List.Filters.{length-filter_both}
use Rattle.std.proofs.lemmas.List.Sums.{list_all-from_AllPass}
use Rattle.std.proofs.lemmas.Option.{same_Some, none-some}
use Rattle.std.proofs.Math.Bool.{and_assoc}
use Rattle.list_laws.proofs.Elements.{contains_map, all_left, all_right}
use Rattle.list_laws.proofs.Members.{all_from, to_filter, contains_here}
use mathlib.Core.Bool.{and-true}
use Rattle.cca_base.specs.Sets.{has}
use Rattle.cca_base.specs.PlantModel.{PlantModel}
use Rattle.cca_base.specs.Formula.{truth}
use Rattle.clause_form.specs.declared.clause.Literal.{Literal}
use Rattle.clause_form.specs.declared.clause.Clause.{Clause}
use Rattle.clause_form.specs.Clauses.{AreValues, AreBelow, AllBelow, is_true, is_met, meets, all_met, names_one}
use Rattle.clause_form.specs.declared.clause.Clauses.{Clauses}
use Rattle.clause_form.specs.Formulas.{AreClausesOf}
use Rattle.guard_compiler.specs.declared.rules.RuleClause.{RuleClause}
use Rattle.guard_compiler.specs.Naming.{IsOver}
use Rattle.guard_compiler.specs.Rules.{clauses_in, AreRulesBelow, AreRulesOf, AreCompletable, DifferAtOwners, is_one_of, is_none_or_one_of}
use Rattle.guard_compiler.specs.Shared.{unowned, owned_by, AreShared, AreSharedOut}

-- ---- lists

all_unmapped : {X Y : Type 0} (P : Y → Type 0) (f : X → Y) (xs : List X) → All P (map f xs) → All (λ x. P (f x)) xs
all_unmapped P f xs h = all_from (λ x. P (f x)) xs (λ x k. All-contains P (map f xs) (f x) h (contains_map f xs x k))

all_met_one : (xs : List ℕ) (clauses : List Clause) (c : Clause) → all_met xs clauses ≡ true → Contains clauses c → meets xs c ≡ true
all_met_one xs [] c h k = absurd (omega (arith, k.1))
all_met_one xs (b ∷ clauses) c h (zero, k, e) = ap (meets xs) (sym e) ∙ (and_parts (meets xs b) (all_met xs clauses) h).0
all_met_one xs (b ∷ clauses) c h (suc i, k, e) = all_met_one xs clauses c (and_parts (meets xs b) (all_met xs clauses) h).1 (i, omega (arith, k), e)

-- ---- clauses that are true together with those of two parts

middle_last : (m a b : Bool) → (a && (m && b)) ≡ (m && (a && b))
middle_last true a b = refl
middle_last false true b = refl
middle_last false false b = refl

met_step : (xs : List ℕ) (c : Clause) (w o : List Clause) (b : Bool) → (all_met xs (cond b (c ∷ w) w) && all_met xs (cond (not b) (c ∷ o) o)) ≡ (meets xs c && (all_met xs w && all_met xs o))
met_step xs c w o true = and_assoc (meets xs c) (all_met xs w) (all_met xs o)
met_step xs c w o false = middle_last (meets xs c) (all_met xs w) (all_met xs o)

met_parts : (test : Clause → Bool) (xs : List ℕ) (clauses : List Clause) → (all_met xs (filter test clauses) && all_met xs (filter (λ c. not (test c)) clauses)) ≡ all_met xs clauses
met_parts test xs [] = refl
met_parts test xs (c ∷ clauses) = met_step xs c (filter test clauses) (filter (λ z. not (test z)) clauses) (test c) ∙ ap (λ b. meets xs c && b) (met_parts test xs clauses)

-- ---- the clauses of rules

met_as : (xs : List ℕ) (f : Clause → RuleClause) → ((c : Clause) → (f c).clause ≡ c) → (clauses : List Clause) → all_met xs (clauses_in (map f clauses)) ≡ all_met xs clauses
met_as xs f same [] = refl
met_as xs f same (c ∷ clauses) = ap (λ z. meets xs z && all_met xs (clauses_in (map f clauses))) (same c) ∙ ap (λ b. meets xs c && b) (met_as xs f same clauses)

met_both : (xs : List ℕ) (a b : List RuleClause) → all_met xs (clauses_in (a ++ b)) ≡ (all_met xs (clauses_in a) && all_met xs (clauses_in b))
met_both xs a b =
    list_all-map (meets xs) (λ (r : RuleClause). r.clause) (a ++ b) ∙ list_all-append (λ (r : RuleClause). meets xs r.clause) a b
    ∙ ap (λ z. z && list_all (λ (r : RuleClause). meets xs r.clause) b) (sym (list_all-map (meets xs) (λ (r : RuleClause). r.clause) a))
    ∙ ap (λ z. all_met xs (clauses_in a) && z) (sym (list_all-map (meets xs) (λ (r : RuleClause). r.clause) b))

met_unowned : (xs : List ℕ) (clauses : List Clause) → all_met xs (clauses_in (unowned clauses)) ≡ all_met xs clauses
met_unowned xs clauses = met_as xs (λ c. record { owner = None; clause = c }) (λ c. refl) clauses

-- ---- values that differ at one subject alone

module _ (xs ys : List ℕ) (x : ℕ) (same : (u : ℕ) → u ≢ x → get_or ys u 0 ≡ get_or xs u 0) where
  other_met : (literals : List Literal) → All (λ l. l.subject ≢ x) literals → is_met ys literals ≡ is_met xs literals
  other_met [] h = refl
  other_met (l ∷ literals) h =
      ap (λ v. has l.values v || is_met ys literals) (same l.subject (h zero l (omega arith)))
      ∙ ap (λ b. is_true xs l || b) (other_met literals (λ k d within. h (suc k) d (omega arith)))

unnamed_at : (x : ℕ) (l : Literal) (literals : List Literal) → (l.subject == x) ≡ false → All (λ l. l.subject ≢ x) literals → All (λ l. l.subject ≢ x) (l ∷ literals)
unnamed_at x l literals none rest zero d within = λ e. both_ways (l.subject == x) none (eq-eqb l.subject x e)
unnamed_at x l literals none rest (suc k) d within = rest k d (omega (arith, within))

unnamed : (x : ℕ) (literals : List Literal) → list_any (λ l. l.subject == x) literals ≡ false → All (λ l. l.subject ≢ x) literals
unnamed x [] h = λ k d within. absurd (omega (arith, within))
unnamed x (l ∷ literals) h =
    let parts = or_parts (l.subject == x) (list_any (λ l. l.subject == x) literals) h in
    unnamed_at x l literals parts.0 (unnamed x literals parts.1)

-- some are gone without those that name x
pub fewer_named : (left : List Clause) (x : ℕ) → 0 < length (filter (names_one (λ u. u == x)) left) → length (filter (λ c. not (names_one (λ u. u == x) c)) left) < length left
fewer_named left x some = omega (arith, some, length-filter_both (names_one (λ u. u == x)) (λ c. not (names_one (λ u. u == x) c)) (λ c. refl) left)

-- fewer than fewer or as many
pub fewer_still : (b : Bool) (old now new : List Clause) → MatchBool b (length now < length old) (now ≡ old) → length new < length now → length new < length old
fewer_still true old now new h lt = omega (arith, h, lt)
fewer_still false old now new h lt = omega (arith, ap length h, lt)

pub empty : {X : Type 0} (xs : List X) → length xs ≤ 0 → xs ≡ []
empty [] h = refl
empty (x ∷ xs) h = absurd (omega (arith, h))

-- ---- the clauses that name a variable become its own

module _ (sizes : List ℕ) (n : ℕ) (given : List Clause) (rules : List RuleClause) (left : List Clause) (x : ℕ) (h : AreSharedOut sizes n given rules left) (above : n ≤ x) (within : x < length sizes) where
  abbrev test : Clause → Bool
  test = names_one (λ u. u == x)

  abbrev with : List Clause
  with = filter test left

  abbrev without : List Clause
  without = filter (λ c. not (test c)) left

  abbrev own : Clause → RuleClause
  own c = record { owner = Some x; clause = c }

  abbrev free : Clause → RuleClause
  free c = record { owner = None; clause = c }

  abbrev more : List RuleClause
  more = rules ++ owned_by x with

  same_met : (xs : List ℕ) → all_met xs (clauses_in (more ++ unowned without)) ≡ all_met xs (clauses_in (rules ++ unowned left))
  same_met xs =
      met_both xs more (unowned without) ∙ ap (λ b. b && all_met xs (clauses_in (unowned without))) (met_both xs rules (owned_by x with))
      ∙ ap (λ b. (all_met xs (clauses_in rules) && b) && all_met xs (clauses_in (unowned without))) (met_as xs own (λ c. refl) with)
      ∙ ap (λ b. (all_met xs (clauses_in rules) && all_met xs with) && b) (met_unowned xs without)
      ∙ and_assoc (all_met xs (clauses_in rules)) (all_met xs with) (all_met xs without)
      ∙ ap (λ b. all_met xs (clauses_in rules) && b) (met_parts test xs left ∙ sym (met_unowned xs left))
      ∙ sym (met_both xs rules (unowned left))

  -- what holds of the old ones, and of the clauses with the owner x, holds of the new ones
  all_more : (P : RuleClause → Type 0) → All P (rules ++ unowned left) → ((c : Clause) → P (free c) → P (own c)) → All P (more ++ unowned without)
  all_more P old turn =
      let alone : All (λ c. P (free c)) left = all_unmapped P free left (all_right P rules (unowned left) old) in
      All-append P more (unowned without)
      (All-append P rules (owned_by x with) (all_left P rules (unowned left) old)
      (All-map P own with (All-weaker (λ c. P (free c)) (λ c. P (own c)) turn with (All-filter test (λ c. P (free c)) left alone))))
      (All-map P free without (All-filter (λ c. not (test c)) (λ c. P (free c)) left alone))

  all_owned : All (λ (r : RuleClause). IsSome r.owner) more
  all_owned = All-append (λ (r : RuleClause). IsSome r.owner) rules (owned_by x with) h.owned (All-map (λ (r : RuleClause). IsSome r.owner) own with (λ k d lt. refl))

  -- an owner of the old ones is one of the new
  still_owner : (u : ℕ) (rule : RuleClause) → Contains (rules ++ unowned left) rule → rule.owner ≡ Some u → Contains (more ++ unowned without) rule
  still_owner u rule among is = elim (Contains-append_cases rules (unowned left) rule among) [
    | inl there ↦ Contains-append_left more (unowned without) rule (Contains-append_left rules (owned_by x with) rule there)
    | inr there ↦
        let none : rule.owner ≡ None = All-contains (λ (r : RuleClause). r.owner ≡ None) (unowned left) rule (All-map (λ (r : RuleClause). r.owner ≡ None) free left (λ k d lt. refl)) there in
        absurd (none-some u (sym none ∙ is))
  ]

  module _ (set_of : ℕ → Bool) (xs : List ℕ) (k : AreValues sizes xs)
      (true_at : All (λ (r : RuleClause). is_none_or_one_of set_of r.owner ≡ true → meets xs r.clause ≡ true) (more ++ unowned without))
      (over : All (λ (r : RuleClause). is_one_of set_of r.owner ≡ true → IsOver n set_of r.clause) (more ++ unowned without)) where
    abbrev Holds : List ℕ → RuleClause → Type 0
    Holds zs r = is_none_or_one_of set_of r.owner ≡ true → meets zs r.clause ≡ true

    abbrev Over : RuleClause → Type 0
    Over r = is_one_of set_of r.owner ≡ true → IsOver n set_of r.clause

    old_over : All Over (rules ++ unowned left)
    old_over = All-append Over rules (unowned left) (all_left Over rules (owned_by x with) (all_left Over more (unowned without) over))
        (All-map Over free left (λ i d lt no. absurd (false≢true no)))

    rules_true : All (Holds xs) rules
    rules_true = all_left (Holds xs) rules (owned_by x with) (all_left (Holds xs) more (unowned without) true_at)

    without_true : (c : Clause) → Contains without c → meets xs c ≡ true
    without_true c among = All-contains (λ z. Holds xs (free z)) without c (all_unmapped (Holds xs) free without (all_right (Holds xs) more (unowned without) true_at)) among refl

    with_true : set_of x ≡ true → (c : Clause) → Contains with c → meets xs c ≡ true
    with_true is c among = All-contains (λ z. Holds xs (own z)) with c (all_unmapped (Holds xs) own with
        (all_right (Holds xs) rules (owned_by x with) (all_left (Holds xs) more (unowned without) true_at))) among is

    -- clauses that are true if those of the two parts are
    from_parts : (zs : List ℕ) → ((c : Clause) → Contains with c → meets zs c ≡ true) → ((c : Clause) → Contains left c → test c ≡ false → meets zs c ≡ true) → All (Holds zs) (unowned left)
    from_parts zs named others = All-map (Holds zs) free left (all_from (λ c. Holds zs (free c)) left (λ c among. λ t.
        elim (cases_Bool (test c)) [ inl one ↦ named c (to_filter test left c one among) | inr none ↦ others c among none ]))

    in_without : (c : Clause) → Contains left c → test c ≡ false → Contains without c
    in_without c among none = to_filter (λ z. not (test z)) left c (ap not none) among

    abbrev Completed : Type 0
    Completed = (ys : List ℕ) × AreValues sizes ys × DifferAtOwners set_of (more ++ unowned without) xs ys × (all_met ys (clauses_in (more ++ unowned without)) ≡ true)

    of_set : set_of x ≡ true → Completed
    of_set is =
        let done = h.shared.completable set_of xs k (All-append (Holds xs) rules (unowned left) rules_true
        (from_parts xs (with_true is) (λ c among none. without_true c (in_without c among none)))) old_over in (
          done.0,
          done.1,
          (λ u. elim (done.2 u) [
            | inl e ↦ inl e
            | inr o ↦ inr (o.0, (o.1.0, still_owner u o.1.0 o.1.1 o.1.2, o.1.2))
          ]),
          same_met done.0 ∙ done.3,
        )

    module _ (not_in : set_of x ≡ false) (first : (c : Clause) × Contains with c) (v : ℕ) (small : v < get_or sizes x 0) (chosen : all_met (set xs x v) with ≡ true) where
      abbrev zs : List ℕ
      zs = set xs x v

      other : (u : ℕ) → u ≢ x → get_or zs u 0 ≡ get_or xs u 0
      other u ne = get_or-set_other xs x u v 0 ne

      values : AreValues sizes zs
      values = record {
        full = length-set xs x v ∙ k.full;
        values = λ i lt. elim (cases_eq i x) [
          | inl e ↦ subst (λ j. get_or zs j 0 < get_or sizes j 0) (sym e) (subst (λ j. j < get_or sizes x 0) (sym (get_or-set_same xs x v 0 (omega (arith, within, k.full)))) small)
          | inr ne ↦ subst (λ j. j < get_or sizes i 0) (sym (other i ne)) (k.values i lt)
        ];
      }

      apart : (c : Clause) → All (λ (l : Literal). l.subject ≢ x) c.literals → meets zs c ≡ meets xs c
      apart c none = other_met xs zs x other c.literals none

      -- a clause over the set doesn't name x
      over_apart : (c : Clause) → IsOver n set_of c → All (λ (l : Literal). l.subject ≢ x) c.literals
      over_apart c o = All-weaker (λ (l : Literal). n ≤ l.subject → set_of l.subject ≡ true) (λ (l : Literal). l.subject ≢ x)
          (λ l s e. both_ways (set_of x) not_in (subst (λ u. set_of u ≡ true) e (s (omega (arith, above, e))))) c.literals o

      owner_in : (o : Option ℕ) → IsSome o → is_none_or_one_of set_of o ≡ true → is_one_of set_of o ≡ true
      owner_in None some is = absurd (false≢true some)
      owner_in (Some u) some is = is

      rules_still : All (Holds zs) rules
      rules_still = all_from (Holds zs) rules (λ r among. λ is.
          let some = All-contains (λ (z : RuleClause). IsSome z.owner) rules r h.owned among in
          let o = All-contains Over rules r (all_left Over rules (unowned left) old_over) among (owner_in r.owner some is) in
          apart r.clause (over_apart r.clause o) ∙ All-contains (Holds xs) rules r rules_true among is)

      left_still : All (Holds zs) (unowned left)
      left_still = from_parts zs (λ c among. all_met_one zs with c chosen among)
          (λ c among none. apart c (unnamed x c.literals none) ∙ without_true c (in_without c among none))

      of_others : Completed
      of_others =
          let done = h.shared.completable set_of zs values (All-append (Holds zs) rules (unowned left) rules_still left_still) old_over in (
            done.0,
            done.1,
            (λ u. elim (cases_eq u x) [
              | inl e ↦ inr (
                ap set_of e ∙ not_in,
                (
                  own first.0,
                  Contains-append_left more (unowned without) (own first.0) (Contains-append_right rules (owned_by x with) (own first.0) (contains_map own with first.0 first.1)),
                  ap (λ z. Some z) (sym e),
                ),
              )
              | inr ne ↦ elim (done.2 u) [
                | inl same ↦ inl (same ∙ other u ne)
                | inr o ↦ inr (o.0, (o.1.0, still_owner u o.1.0 o.1.1 o.1.2, o.1.2))
              ]
            ]),
            same_met done.0 ∙ done.3,
          )

  first_of : (clauses : List Clause) → 0 < length clauses → (c : Clause) × Contains clauses c
  first_of [] some = absurd (omega (arith, some))
  first_of (c ∷ clauses) some = (c, contains_here c c clauses refl)

  pub shared_more : 0 < length with → ((xs : List ℕ) → AreValues sizes xs → (v : ℕ) × (v < get_or sizes x 0) × (all_met (set xs x v) with ≡ true)) → AreSharedOut sizes n given more without
  shared_more some choose = record {
    owned = all_owned;
    shared = record {
      subjects = all_more (λ (r : RuleClause). AreBelow (length sizes) r.clause.literals × ForSome r.owner (λ u. u < length sizes)) h.shared.subjects
          (λ c p. (p.0, λ u is. subst (λ z. z < length sizes) (same_Some x u is) within));
      owners = all_more (λ (r : RuleClause). ForSome r.owner (λ u. n ≤ u)) h.shared.owners (λ c p. λ u is. subst (λ z. n ≤ z) (same_Some x u is) above);
      met = λ xs. same_met xs ∙ h.shared.met xs;
      completable = λ set_of xs k true_at over. elim (cases_Bool (set_of x)) [
        | inl is ↦ of_set set_of xs k true_at over is
        | inr not_in ↦ let c = choose xs k in of_others set_of xs k true_at over not_in (first_of with some) c.0 c.1 c.2
      ];
    };
  }

-- ---- the first and the last

-- no clause has an owner yet
pub shared_none : (sizes : List ℕ) (n : ℕ) (given : List Clause) → AllBelow (length sizes) given → AreSharedOut sizes n given [] given
shared_none sizes n given below =
    let free : Clause → RuleClause = λ c. record { owner = None; clause = c } in
    record {
      owned = λ k d lt. absurd (omega (arith, lt));
      shared = record {
        subjects = All-map (λ (r : RuleClause). AreBelow (length sizes) r.clause.literals × ForSome r.owner (λ u. u < length sizes)) free given
            (All-weaker (λ (c : Clause). AreBelow (length sizes) c.literals) (λ c. AreBelow (length sizes) c.literals × ForSome (free c).owner (λ u. u < length sizes))
            (λ c b. (b, λ u is. absurd (none-some u is))) given below);
        owners = All-map (λ (r : RuleClause). ForSome r.owner (λ u. n ≤ u)) free given (λ k d lt u is. absurd (none-some u is));
        met = λ xs. met_unowned xs given;
        completable = λ set_of xs k true_at over. (
          xs,
          k,
          (λ u. inl refl),
          met_unowned xs given ∙ list_all-from_AllPass (meets xs) given
              (All-weaker (λ (c : Clause). ◌≡◌ {A = Bool} true true → meets xs c ≡ true) (λ c. meets xs c ≡ true) (λ c h. h refl) given
              (all_unmapped (λ (r : RuleClause). is_none_or_one_of set_of r.owner ≡ true → meets xs r.clause ≡ true) free given true_at)),
        );
      };
    }

-- those of the whole model's clauses are the rules'
pub are_rules : (m : PlantModel) (whole : Clauses) (n : ℕ) (rules : List RuleClause) → n ≡ length m.components → AreClausesOf m None None whole → AreShared whole.sizes n whole.clauses rules → AreRulesOf m rules
are_rules m whole n rules count w h = record {
  subjects = subst (λ (z : List ℕ). AreRulesBelow (length z) rules) w.sizes h.subjects;
  owners = subst (λ z. All (λ (r : RuleClause). ForSome r.owner (λ u. z ≤ u)) rules) count h.owners;
  meaning = λ modes values a b.
      let said = list_all (truth modes values) m.rules in
      h.met (modes ++ values) ∙ w.meaning modes values a b ∙ and-true (said && true) ∙ and-true said;
  completable = subst (λ (z : List ℕ). AreCompletable z (length m.components) rules) w.sizes (subst (λ z. AreCompletable whole.sizes z rules) count h.completable);
}

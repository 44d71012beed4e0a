-- Clauses of words: which literals are open, and what is learned of a clause with none.
use Rattle.std.proofs.Common.{◌≡◌, ◌≢◌, inl, inr, ℕ, ◌+◌, ◌-◌, ◌^◌, ◌<◌, Bool, true, false, ◌||◌, ◌&&◌, eqb, w64, List, [], ◌∷◌, ◌++◌, length, get_or, take, set, slice_index, bit_and, bit_or, refl, sym, ap, subst, ◌∙◌, arith, get_or-set_same, get_or-set_other}
use Rattle.std.specs.Prelude.{All, IsTrue}
use Rattle.std.specs.Int.{bit_at, bit_not}
use Rattle.std.proofs.lemmas.Bool.{and_from, and_parts, both_ways, false_from_ne_true, cases_eq, cases_lt, le-ltb, or_cases, or_left, or_right}
use Rattle.std.proofs.lemmas.Bool.Decides.{nat_tests}
use Rattle.std.proofs.lemmas.List.{get_or_default, map-append, take_more}
use Rattle.std.proofs.lemmas.List.Elements.{All-map, All-push, All-weaker, Contains-append_left, Contains-push}
use Rattle.std.proofs.lemmas.Nat.Bits.{bit_at-lt, bit_at_not}
use Rattle.cca_base.specs.Sets.{has}
use Rattle.cca_base.proofs.SetLaws.{has-and, has-empty, has-or, has_above}
use Rattle.clause_form.specs.declared.clause.Literal.{Literal}
use Rattle.clause_form.specs.Clauses.{is_met, is_true}
use Rattle.std.proofs.lemmas.List.Folds.{list_any_at}
use Rattle.clash_analysis.specs.Trails.{AllWithin, AreApart}
use Rattle.clash_analysis.specs.Learning.{IsClauseOf, IsLearned, IsOneOrOut, IsOut}
use Rattle.clash_analysis.specs.Laws.{Passes}
use Rattle.clash_analysis.proofs.VisitLaws.{clause_apart, clause_learned}
use Rattle.clash_analysis.proofs.ClimbLaws.{some_shared}
use Rattle.world_search.specs.declared.words.WordLiteral.{WordLiteral}
use Rattle.world_search.specs.Words.{IsMetIn, OthersOut, literal_of, literals_of, met}
use Rattle.world_search.specs.Works.{HasMore, ShareSome}

-- ---- words

not_one : (x b : ℕ) → b < 2 → x ≡ 1 - b → eqb x 1 ≡ true → eqb b 1 ≡ false
not_one x b h e is = grind (arith, nat_tests)

pub some_common : (set other : ℕ) → set < 2 ^ 64 → bit_and set other ≢ 0 → ShareSome set other
some_common set other h ne = let found = some_shared set other h ne in (found.0, found.2, found.1)

-- sets that share nothing
pub none_common : (set other : ℕ) → bit_and set other ≡ 0 → (a : ℕ) → has set a ≡ true → has other a ≡ false
none_common set other e a h = false_from_ne_true (has other a) (λ is. both_ways (has 0 a) (has-empty a) (ap (λ s. has s a) (sym e) ∙ has-and set other a ∙ and_from (has set a) (has other a) h is))

pub some_more : (set other : ℕ) → set < 2 ^ 64 → other < 2 ^ 64 → bit_and set (2 ^ 64 - 1 - other) ≢ 0 → HasMore set other
some_more set other h k ne =
    let found = some_shared set (2 ^ 64 - 1 - other) h ne in
    let a = found.0 in
    let low : a < 64 = elim (cases_lt a 64) [
      | inl less ↦ less
      | inr more ↦ absurd (both_ways (has set a) (sym (has_above 64 set a h more) ∙ le-ltb a 64 more) found.2)
    ] in
    (a, found.2, not_one (bit_at (bit_not w64 other) a) (bit_at other a) (bit_at-lt other a) (bit_at_not w64 other a k low) found.1)

-- ---- literals

pub met_map : (xs : List ℕ) (words : List WordLiteral) → is_met xs (literals_of words) ≡ met xs words
met_map xs [] = refl
met_map xs (w ∷ words) = ap (λ b. is_true xs (literal_of w) || b) (met_map xs words)

pub met_literals : (want : List ℕ → Bool) (words : List WordLiteral) → IsMetIn words want → (xs : List ℕ) → IsTrue (want xs) → is_met xs (literals_of words) ≡ true
met_literals want words all xs is = met_map xs words ∙ all xs is

pub more_literals : (words : List WordLiteral) (i : ℕ) (d : WordLiteral) → i < length words → literals_of (take (i + 1) words) ≡ literals_of (take i words) ++ literal_of (get_or words i d) ∷ []
more_literals words i d h = ap literals_of (take_more words i d h) ∙ map-append literal_of (take i words) (get_or words i d ∷ [])

module _ (dom : List ℕ) (words : List WordLiteral) where
  -- a literal more that is out, or the one that isn't
  pub out_more : (i found : ℕ) (d : WordLiteral) → i < length words → ((k : ℕ) (w : WordLiteral) → k < i → k ≢ found → IsOut dom (literal_of (get_or words k w)))
      → (i ≢ found → IsOut dom (literal_of (get_or words i d))) → (k : ℕ) (w : WordLiteral) → k < i + 1 → k ≢ found → IsOut dom (literal_of (get_or words k w))
  out_more i found d h before here k w less other = elim (cases_eq k i) [
    | inl same ↦
        let at : get_or words i d ≡ get_or words k w = get_or_default words i d w h ∙ ap (λ n. get_or words n w) (sym same) in
        subst (λ (x : WordLiteral). IsOut dom (literal_of x)) at (here (λ e. other (same ∙ e)))
    | inr apart ↦ before k w (omega arith) other
  ]

  pub all_out : OthersOut dom words (length words) → All (IsOut dom) (literals_of words)
  all_out others = All-map (IsOut dom) literal_of words (λ k d h. others k d h (λ e. absurd (omega (arith, e, h))))

  pub one_or_out : (place : ℕ) (d : WordLiteral) (reason : ℕ → Bool) → place < length words → OthersOut dom words place → ((i : ℕ) (w : WordLiteral) → i < length words → i ≢ place → reason (get_or words i w).subject ≡ true)
      → All (IsOneOrOut dom (literal_of (get_or words place d)) reason) (literals_of words)
  one_or_out place d reason h others among = All-map (IsOneOrOut dom (literal_of (get_or words place d)) reason) literal_of words (λ k w small. elim (cases_eq k place) [
    | inl same ↦ inl (ap literal_of (ap (λ n. get_or words n w) same ∙ get_or_default words place w d h))
    | inr other ↦ inr (among k w small other, others k w small other)
  ])

pub inside_literals : (n : ℕ) (words : List WordLiteral) → All (λ (w : WordLiteral). w.subject < n) words → All (λ (l : Literal). l.subject < n) (literals_of words)
inside_literals n words all = All-map (λ (l : Literal). l.subject < n) literal_of words all

-- ---- one literal more is learned

module _ (start learn : List ℕ) (front : List Literal) (l : Literal) (inside : l.subject < length learn) (clause : IsClauseOf start front learn) where
  abbrev value : ℕ
  value = bit_or (slice_index learn l.subject) (bit_and l.values (slice_index start l.subject))

  here : (a : ℕ) → has (slice_index (set learn l.subject value) l.subject) a ≡ (has (slice_index learn l.subject) a || (has l.values a && has (slice_index start l.subject) a))
  here a = ap (λ s. has s a) (get_or-set_same learn l.subject value 0 inside) ∙ has-or (slice_index learn l.subject) (bit_and l.values (slice_index start l.subject)) a
      ∙ ap (λ b. has (slice_index learn l.subject) a || b) (has-and l.values (slice_index start l.subject) a)

  grows : (v a : ℕ) → has (slice_index learn v) a ≡ true → has (slice_index (set learn l.subject value) v) a ≡ true
  grows v a held = elim (cases_eq v l.subject) [
    | inl same ↦ ap (λ u. has (slice_index (set learn l.subject value) u) a) same ∙ here a ∙ or_left _ _ (ap (λ u. has (slice_index learn u) a) (sym same) ∙ held)
    | inr other ↦ ap (λ s. has s a) (get_or-set_other learn l.subject v value 0 other) ∙ held
  ]

  pub clause_more : IsClauseOf start (front ++ l ∷ []) (set learn l.subject (bit_or (slice_index learn l.subject) (bit_and l.values (slice_index start l.subject))))
  clause_more =
      let P : Literal → Type 0 = λ l2. (a : ℕ) → has (slice_index start l2.subject) a ≡ true → has l2.values a ≡ true → has (slice_index (set learn l.subject value) l2.subject) a ≡ true in
      record {
        each = All-push P front l
            (All-weaker (λ (l2 : Literal). (a : ℕ) → has (slice_index start l2.subject) a ≡ true → has l2.values a ≡ true → has (slice_index learn l2.subject) a ≡ true) P (λ l2 old a s v. grows l2.subject a (old a s v)) front clause.each)
            (λ a s v. here a ∙ or_right _ _ (and_from _ _ v s));
        only = λ v a held. elim (cases_eq v l.subject) [
          | inl same ↦ elim (or_cases _ _ (sym (here a) ∙ ap (λ u. has (slice_index (set learn l.subject value) u) a) (sym same) ∙ held)) [
            | inl old ↦ let (l2, among, at, is) = clause.only l.subject a old in (l2, Contains-append_left front (l ∷ []) l2 among, at ∙ sym same, is)
            | inr new ↦ (l, Contains-push front l, sym same, (and_parts _ _ new).0)
          ]
          | inr other ↦ let (l2, among, at, is) = clause.only v a (ap (λ s. has s a) (sym (get_or-set_other learn l.subject v value 0 other)) ∙ held) in (l2, Contains-append_left front (l ∷ []) l2 among, at, is)
        ];
      }

-- a clause with no open literal is learned, and is a clash
pub clause_clash : (start dom learn : List ℕ) (words : List WordLiteral) → All (λ (w : WordLiteral). w.subject < length start) words → IsClauseOf start (literals_of words) learn → All (IsOut dom) (literals_of words)
    → (want : List ℕ → Bool) → IsMetIn words want → AllWithin (Passes want) start → IsLearned (Passes want) learn × AreApart dom learn
clause_clash start dom learn words inside clause out want holds all = (
  clause_learned (Passes want) (literals_of words) (met_literals want words holds) start learn all (inside_literals (length start) words inside) clause,
  clause_apart start dom learn (literals_of words) out clause,
)

-- one literal that is true makes the clause true
pub met_at : (xs : List ℕ) (words : List WordLiteral) (i : ℕ) (d : WordLiteral) → i < length words → has (get_or words i d).values (slice_index xs (get_or words i d).subject) ≡ true → met xs words ≡ true
met_at xs words i d h is = list_any_at (λ (w : WordLiteral). is_true xs (literal_of w)) words i d h is

-- one literal more is out
pub out_push : (dom : List ℕ) (words : List WordLiteral) (i : ℕ) (d : WordLiteral) → i < length words → All (IsOut dom) (literals_of (take i words)) → bit_and (slice_index dom (get_or words i d).subject) (get_or words i d).values ≡ 0
    → All (IsOut dom) (literals_of (take (i + 1) words))
out_push dom words i d h before none =
    subst (All (IsOut dom)) (sym (more_literals words i d h)) (All-push (IsOut dom) (literals_of (take i words)) (literal_of (get_or words i d)) before (none_common (slice_index dom (get_or words i d).subject) (get_or words i d).values none))

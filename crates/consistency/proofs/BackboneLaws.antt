-- Values that all solutions have, one subject after another.
use Rattle.std.proofs.Common.{◌≡◌, ◌≢◌, ◌⊎◌, ◌+◌, ◌<◌, ◌↔◌, ◌++◌, ℕ, true, IsTrue, List, [], ◌∷◌, length, slice_index, All, Contains, inl, inr, sym, ap, subst, ◌∙◌, arith}
use Rattle.std.proofs.lemmas.Bool.{cases_eq}
use Rattle.std.proofs.lemmas.List.Elements.{All-nil, All-push, All-weaker, All-contains, Contains-append_cases, Contains-append_left, Contains-append_right}
use Rattle.std.proofs.lemmas.List.Quantifiers.{all_pairs_push}
use Rattle.list_laws.proofs.Members.{contains_cases, contains_here, contains_none}
use Rattle.cca_base.specs.declared.cube.Pair.{Pair}
use Rattle.cca_base.specs.Cube.{IsRising}
use Rattle.cca_base.specs.Sets.{has}
use Rattle.clause_form.specs.declared.clause.Clause.{Clause}
use Rattle.clash_analysis.specs.declared.subjects.SubjectSet.{SubjectSet}
use Rattle.world_search.specs.Worlds.{IsSolution}
use Rattle.consistency.specs.Search.{AllHave, IsBackbone, IsVaried, AreVaried}
use Rattle.clash_analysis.specs.Subjects.{is_in}

-- what differs from a solution at further subjects shows that these vary
pub more_varied : (clauses : List Clause) (base : List ℕ) (old new : SubjectSet) (xs ys : List ℕ) → IsSolution clauses base xs → IsSolution clauses base ys → AreVaried clauses base old
    → ((d : ℕ) → is_in new d ≡ true → (is_in old d ≡ true) ⊎ (slice_index xs d ≢ slice_index ys d)) → AreVaried clauses base new
more_varied clauses base old new xs ys one other known split d among = elim (split d among) [
  | inl before ↦ known d before
  | inr apart ↦ (xs, ys, one, other, apart)
]

-- no pair of a varied subject is one that all solutions have
pub varied_not_forced : (clauses : List Clause) (base : List ℕ) (first : ℕ) (p : Pair) → IsVaried clauses base (first + p.item) → AllHave clauses base first p → ⊥
varied_not_forced clauses base first p (xs, ys, one, other, apart) all = apart (all xs one ∙ sym (all ys other))

module _ (clauses : List Clause) (base : List ℕ) (first vars : ℕ) where
  -- the same of the subjects before one
  pub record IsBackboneTo (n : ℕ) (pairs : List Pair) : Type 0 where
    pub rising : IsRising pairs
    pub within : All (λ p. p.item < n) pairs
    pub each : (p : Pair) → p.item < n → Contains pairs p ↔ (IsTrue (has vars p.item) × AllHave clauses base first p)

  pub none_yet : IsBackboneTo 0 []
  none_yet = record {
    rising = λ i j d a b. absurd (omega (arith, b));
    within = All-nil (λ p. p.item < 0);
    each = λ p h. absurd (omega (arith, h));
  }

  module _ (n : ℕ) (pairs : List Pair) (h : IsBackboneTo n pairs) where
    abbrev at : ℕ → Pair
    at x = record { item = n; value = x }

    wider : All (λ p. p.item < n + 1) pairs
    wider = All-weaker (λ p. p.item < n) (λ p. p.item < n + 1) (λ p k. omega (arith, k)) pairs h.within

    not_among : (p : Pair) → p.item ≡ n → Contains pairs p → ⊥
    not_among p e among = let less : p.item < n = All-contains (λ q. q.item < n) pairs p h.within among in omega (arith, e, less)

    here : (p : Pair) → p.item ≡ n → at p.value ≡ p
    here p e d = record { item = sym e d; value = p.value }

    pub passed : ((x : ℕ) → IsTrue (has vars n) → AllHave clauses base first (at x) → ⊥) → IsBackboneTo (n + 1) pairs
    passed gone = record {
      rising = h.rising;
      within = wider;
      each = λ p k. elim (cases_eq p.item n) [
        | inl e ↦ (λ among. absurd (not_among p e among), λ both. absurd (gone p.value (subst (λ j. has vars j ≡ true) e both.0) (subst (AllHave clauses base first) (sym (here p e)) both.1)))
        | inr ne ↦ h.each p (omega arith)
      ];
    }

    pub noted : (x : ℕ) → IsTrue (has vars n) → AllHave clauses base first (at x) → (xs : List ℕ) → IsSolution clauses base xs → IsBackboneTo (n + 1) (pairs ++ at x ∷ [])
    noted x asked all xs solution = record {
      rising = all_pairs_push (λ p q. p.item < q.item) pairs (at x) h.rising (λ k d below. h.within k d below);
      within = All-push (λ p. p.item < n + 1) pairs (at x) wider (omega arith);
      each = λ p k. elim (cases_eq p.item n) [
        | inl e ↦ (
          λ among. elim (Contains-append_cases pairs (at x ∷ []) p among) [
            | inl before ↦ absurd (not_among p e before)
            | inr last ↦ elim (contains_cases (at x) p [] last) [
              | inl same ↦ (subst (λ j. has vars j ≡ true) (sym e) asked, subst (AllHave clauses base first) same all)
              | inr none ↦ absurd (contains_none p none)
            ]
          ],
          λ both.
              (let mine : slice_index xs (first + n) ≡ p.value = subst (AllHave clauses base first) (sym (here p e)) both.1 xs solution in
              let value : x ≡ p.value = sym (all xs solution) ∙ mine in
              Contains-append_right pairs (at x ∷ []) p (contains_here (at x) p [] (ap at value ∙ here p e))),
        )
        | inr ne ↦ (
            let old = h.each p (omega arith) in (
              λ among. elim (Contains-append_cases pairs (at x ∷ []) p among) [
                | inl before ↦ old.0 before
                | inr last ↦ elim (contains_cases (at x) p [] last) [
                  | inl same ↦ absurd (ne (ap (λ (q : Pair). q.item) (sym same)))
                  | inr none ↦ absurd (contains_none p none)
                ]
              ],
              λ both. Contains-append_left pairs (at x ∷ []) p (old.1 both),
            ))
      ];
    }

    pub all_noted : first + n ≡ length base → IsBackbone clauses base first vars pairs
    all_noted end = record {
      rising = h.rising;
      each = λ p. (
        λ among.
            (let inside : p.item < n = All-contains (λ q. q.item < n) pairs p h.within among in
            let both = (h.each p inside).0 among in
            (both.0, omega arith, both.1)),
        λ all. (h.each p (omega (arith, all.1))).1 (all.0, all.2),
      );
    }

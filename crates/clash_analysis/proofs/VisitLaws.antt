-- What a clause says, of which one literal is open, or none.
use Rattle.std.proofs.Common.{◌≡◌, inl, inr, ℕ, ◌<◌, Bool, true, List, [], ◌∷◌, length, slice_index, refl, sym, ap, subst, ◌∙◌}
use Rattle.std.specs.Prelude.{All, Contains}
use Rattle.std.proofs.lemmas.Bool.{both_ways, or_cases, false≢true, false_from_ne_true}
use Rattle.std.proofs.lemmas.List.Elements.{All-contains}
use Rattle.list_laws.proofs.Members.{contains_here, contains_there}
use Rattle.cca_base.specs.Sets.{has}
use Rattle.cca_base.specs.declared.cube.Pair.{Pair}
use Rattle.clause_form.specs.declared.clause.Literal.{Literal}
use Rattle.clause_form.specs.Clauses.{is_met, is_true}
use Rattle.clash_analysis.specs.Trails.{AllWithin, AreApart, IsReason}
use Rattle.clash_analysis.specs.Learning.{IsClauseOf, IsLearned, IsOneOrOut, IsOut, WithPairs}

-- a true clause has a true literal
pub some_true : (xs : List ℕ) (literals : List Literal) → is_met xs literals ≡ true → (l : Literal) × Contains literals l × (is_true xs l ≡ true)
some_true xs [] met = absurd (false≢true met)
some_true xs (l ∷ literals) met = elim (or_cases (is_true xs l) (is_met xs literals) met) [
  | inl here ↦ (l, contains_here l l literals refl, here)
  | inr later ↦ let there = some_true xs literals later in (there.0, contains_there l there.0 literals there.1, there.2)
]

module _ (W : List ℕ → Type 0) (literals : List Literal) (met : (xs : List ℕ) → W xs → is_met xs literals ≡ true) where
  -- the subjects of the literals that are out are a reason for the one that is open
  pub open_literal : (dom : List ℕ) (one : Literal) (reason : ℕ → Bool) → ((v : ℕ) → reason v ≡ true → v < length dom) → All (IsOneOrOut dom one reason) literals → IsReason W dom reason one.subject one.values
  open_literal dom one reason inside out = record {
    inside = inside;
    follows = λ xs w holds. let found = some_true xs literals (met xs w) in
        let l = found.0 in
        elim (All-contains (IsOneOrOut dom one reason) literals l out found.1) [
          | inl same ↦ subst (λ (k : Literal). is_true xs k ≡ true) same found.2
          | inr (among, closed) ↦ absurd (both_ways (is_true xs l) (closed (slice_index xs l.subject) (holds l.subject among)) found.2)
        ];
  }

  -- what the clause says is learned
  pub clause_learned : (start learn : List ℕ) → AllWithin W start → All (λ l. l.subject < length start) literals → IsClauseOf start literals learn → IsLearned W learn
  clause_learned start learn all inside clause xs w =
      let found = some_true xs literals (met xs w) in
      let l = found.0 in
      let here : l.subject < length start = All-contains (λ (l : Literal). l.subject < length start) literals l inside found.1 in (
        l.subject,
        All-contains (λ (l : Literal). (a : ℕ) → has (slice_index start l.subject) a ≡ true → has l.values a ≡ true → has (slice_index learn l.subject) a ≡ true) literals l clause.each found.1 (slice_index xs l.subject)
            (all xs w l.subject here) found.2,
      )

-- and is apart from what is left, if no literal is open
pub clause_apart : (start dom learn : List ℕ) (literals : List Literal) → All (IsOut dom) literals → IsClauseOf start literals learn → AreApart dom learn
clause_apart start dom learn literals out clause v a held = false_from_ne_true (has (slice_index learn v) a) (λ there.
    let (l, among, same, has_it) = clause.only v a there in
    both_ways (has l.values a) (All-contains (IsOut dom) literals l out among a (subst (λ u. has (slice_index dom u) a ≡ true) (sym same) held)) has_it)

-- a pair of the question of whose value nothing is left
pub pair_learned : (W : List ℕ → Type 0) (pairs : List Pair) (start learn : List ℕ) (p : Pair) (blamed : ℕ → Bool) → AllWithin W start → p.item < length start → Contains pairs p → blamed p.item ≡ true
    → (has (slice_index start p.item) p.value ≡ true → has (slice_index learn p.item) p.value ≡ true) → IsLearned (WithPairs W pairs blamed) learn
pair_learned W pairs start learn p blamed all inside among is taken xs (w, having) =
    let same = having p among is in
    (p.item, ap (has (slice_index learn p.item)) same ∙ taken (ap (has (slice_index start p.item)) (sym same) ∙ all xs w p.item inside))

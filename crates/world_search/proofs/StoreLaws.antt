-- What is kept of learned sets.
use Rattle.std.proofs.Common.{◌≡◌, ◌≢◌, inl, inr, ℕ, ◌+◌, ◌-◌, ◌*◌, ◌%◌, ◌^◌, ◌<◌, ◌≤◌, Bool, true, not, List, [], ◌∷◌, ◌++◌, length, slice_index, bit_and, sym, ap, subst, ◌∙◌, arith}
use Rattle.std.specs.Prelude.{Contains}
use Rattle.std.proofs.lemmas.Bool.{and_parts, both_ways, cases_eq}
use Rattle.std.proofs.lemmas.List.Elements.{Contains-append_left, Contains-push}
use Rattle.cca_base.specs.Sets.{has}
use Rattle.cca_base.proofs.SetLaws.{has-and, has-empty}
use Rattle.clash_analysis.specs.Learning.{IsLearned}
use Rattle.clash_analysis.specs.Laws.{Passes}
use Rattle.clash_analysis.proofs.LearnLaws.{subject_inside}
use Rattle.world_search.specs.declared.words.WordLiteral.{WordLiteral}
use Rattle.world_search.specs.Words.{IsMetIn}
use Rattle.world_search.proofs.AssumeLaws.{has_not, one_small}
use Rattle.world_search.proofs.ClauseLaws.{met_at}
use Rattle.world_search.proofs.SettleLaws.{low_member}
use Rattle.world_search.proofs.WorkLaws.{one_has}

-- a set without a value
pub has_without : (word value a : ℕ) → word < 2 ^ 64 → value < 64 → has (bit_and word (2 ^ 64 - 1 - 1 * 2 ^ value % 2 ^ 64)) a ≡ true → (has word a ≡ true) × (a ≢ value)
has_without word value a h small is =
    let both = and_parts _ _ (sym (has-and word (2 ^ 64 - 1 - 1 * 2 ^ value % 2 ^ 64) a) ∙ is) in (
      both.0,
      λ same. both_ways (has (2 ^ 64 - 1 - 1 * 2 ^ value % 2 ^ 64) a)
          (has_not (1 * 2 ^ value % 2 ^ 64) a (one_small value small) (low_member word a h both.0) ∙ ap not (ap (has (1 * 2 ^ value % 2 ^ 64)) same ∙ one_has value small)) both.1,
    )

module _ (learn : List ℕ) where
  -- the literal of a learned set
  abbrev pub word_of : ℕ → WordLiteral
  word_of v = record { subject = v; values = slice_index learn v }

  -- those of the first subjects are among the literals, where their sets have a value
  abbrev pub AreAmong : List WordLiteral → ℕ → Type 0
  AreAmong words i = (v a : ℕ) → v < i → has (slice_index learn v) a ≡ true → Contains words (word_of v)

  pub among_push : (words : List WordLiteral) (i : ℕ) → AreAmong words i → AreAmong (words ++ word_of i ∷ []) (i + 1)
  among_push words i before v a less is = elim (cases_eq v i) [
    | inl same ↦ subst (λ k. Contains (words ++ word_of i ∷ []) (word_of k)) (sym same) (Contains-push words (word_of i))
    | inr other ↦ Contains-append_left words (word_of i ∷ []) (word_of v) (before v a (omega (arith, less, other)) is)
  ]

  pub among_skip : (words : List WordLiteral) (i : ℕ) → slice_index learn i ≡ 0 → AreAmong words i → AreAmong words (i + 1)
  among_skip words i none before v a less is = elim (cases_eq v i) [
    | inl same ↦ absurd (both_ways (has 0 a) (has-empty a) (ap (λ s. has s a) (sym (ap (slice_index learn) same ∙ none)) ∙ is))
    | inr other ↦ before v a (omega (arith, less, other)) is
  ]

  -- with all of them the clause is true in each list that has a learned value
  pub met_among : (words : List WordLiteral) (i : ℕ) → length learn ≤ i → AreAmong words i → (want : List ℕ → Bool) → IsLearned (Passes want) learn → IsMetIn words want
  met_among words i end all want learned xs is =
      let found = learned xs is in
      let low : found.0 < length learn = subject_inside learn found.0 (slice_index xs found.0) found.1 in
      let at = all found.0 (slice_index xs found.0) (omega (arith, low, end)) found.1 in
      met_at xs words at.0 (word_of found.0) at.1 (subst (λ (w : WordLiteral). has w.values (slice_index xs w.subject) ≡ true) (sym at.2) found.1)

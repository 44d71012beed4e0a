-- What a trail's front keeps of a learned clause, and what is narrowed there.
use Rattle.std.proofs.Common.{◌≡◌, ◌≢◌, inl, inr, ℕ, ◌<◌, Bool, true, false, List, [], ◌∷◌, ◌++◌, length, set, slice_index, bit_and, refl, sym, ap, subst, ◌∙◌, get_or-set_same, get_or-set_other}
use Rattle.std.specs.Prelude.{All}
use Rattle.std.proofs.lemmas.Bool.{and_parts, both_ways, cases_eq}
use Rattle.std.proofs.lemmas.List.{length-set}
use Rattle.std.proofs.lemmas.List.Elements.{All-head, All-tail}
use Rattle.cca_base.specs.Sets.{has}
use Rattle.cca_base.proofs.SetLaws.{has-and}
use Rattle.cca_base.specs.declared.cube.Pair.{Pair}
use Rattle.clash_analysis.specs.declared.entry.Entry.{Entry}
use Rattle.clash_analysis.specs.declared.entry.Why.TheVariants.{Because}
use Rattle.clash_analysis.specs.declared.subjects.SubjectSet.{SubjectSet}
use Rattle.clash_analysis.specs.Subjects.{is_in}
use Rattle.clash_analysis.specs.Trails.{AllWithin, AreApart, AreApartBut, AreEntries, IsEntry, IsTrail, is_within, left_by, narrowed}
use Rattle.clash_analysis.specs.Learning.{IsLearned, SharesNone, WithPairs}
use Rattle.clash_analysis.proofs.TrailLaws.{entries_back, entries_front, left_both}
use Rattle.clash_analysis.proofs.LearnLaws.{subject_inside}

-- the sets after an entry are within those before it
pub narrowed_within : (dom : List ℕ) (e : Entry) (v a : ℕ) → e.subject < length dom → e.before ≡ slice_index dom e.subject → has (slice_index (narrowed dom e) v) a ≡ true → has (slice_index dom v) a ≡ true
narrowed_within dom e v a inside before held = elim (cases_eq v e.subject) [
  | inl same ↦
      let at : slice_index (narrowed dom e) v ≡ bit_and e.before e.kept = ap (slice_index (narrowed dom e)) same ∙ get_or-set_same dom e.subject (bit_and e.before e.kept) 0 inside in
      let parts = and_parts _ _ (sym (has-and e.before e.kept a) ∙ ap (λ s. has s a) (sym at) ∙ held) in
      ap (λ s. has s a) (ap (slice_index dom) same ∙ sym before) ∙ parts.0
  | inr other ↦ ap (λ s. has s a) (sym (get_or-set_other dom e.subject v (bit_and e.before e.kept) 0 other)) ∙ held
]

module _ (W : List ℕ → Type 0) (pairs : List Pair) where
  -- what the whole trail leaves is within what its front leaves
  pub left_within : (start : List ℕ) (back : List Entry) (v a : ℕ) → AreEntries W pairs start back → has (slice_index (left_by start back) v) a ≡ true → has (slice_index start v) a ≡ true
  left_within start [] v a right held = held
  left_within start (e ∷ back) v a right held = narrowed_within start e v a right.0.inside right.0.before (left_within (narrowed start e) back v a right.1 held)

  pub left_long : (start : List ℕ) (trail : List Entry) → length (left_by start trail) ≡ length start
  left_long start [] = refl
  left_long start (e ∷ trail) = left_long (narrowed start e) trail ∙ length-set start e.subject (bit_and e.before e.kept)

  -- what is undone keeps the learned sets apart, if no entry of it but of u had a value in them
  pub undone_apart : (dom learn : List ℕ) (back : List Entry) (u : ℕ) → AreEntries W pairs dom back → All (SharesNone learn u) back → AreApartBut u (left_by dom back) learn → AreApartBut u dom learn
  undone_apart dom learn [] u right none apart v a other held = apart v a other held
  undone_apart dom learn (e ∷ back) u right none apart v a other held = elim (cases_eq v e.subject) [
    | inl same ↦
        subst (λ w. has (slice_index learn w) a ≡ false) (sym same)
        (All-head (SharesNone learn u) e back none (λ is. other (same ∙ is)) a (ap (λ s. has s a) (right.0.before ∙ ap (slice_index dom) (sym same)) ∙ held))
    | inr apart_from ↦
        undone_apart (narrowed dom e) learn back u right.1 (All-tail (SharesNone learn u) e back none) apart v a other
        (ap (λ s. has s a) (get_or-set_other dom e.subject v (bit_and e.before e.kept) 0 apart_from) ∙ held)
  ]

  -- the learned sets narrow the one subject from which they aren't apart, and the others are a reason
  pub learned_entry : (dom learn : List ℕ) (u : ℕ) (set : SubjectSet) → length learn ≡ length dom → u < length dom → IsLearned W learn → AreApartBut u dom learn
      → ((v a : ℕ) → v ≢ u → has (slice_index learn v) a ≡ true → is_in set v ≡ true) → ((v : ℕ) → is_in set v ≡ true → v < length dom)
      → ((a : ℕ) × (has (slice_index dom u) a ≡ true) × (has (slice_index learn u) a ≡ true)) → ((a : ℕ) × (has (slice_index dom u) a ≡ true) × (has (slice_index learn u) a ≡ false))
      → IsEntry W pairs dom (record { subject = u; before = slice_index dom u; kept = slice_index learn u; why = Because set })
  learned_entry dom learn u set long inside learned apart others within left less = record {
    inside = inside;
    before = refl;
    left = left;
    less = less;
    why = record {
      inside = within;
      follows = λ xs w holds. let found = learned xs w in
          let v = found.0 in
          elim (cases_eq v u) [
            | inl same ↦ subst (λ k. is_within learn xs k ≡ true) same found.1
            | inr other ↦ absurd (both_ways (is_within learn xs v) (apart v (slice_index xs v) other (holds v (others v (slice_index xs v) other found.1))) found.1)
          ];
    };
  }

  -- learned sets that are apart from all that there was at the start: no world
  pub nothing_left : (start learn : List ℕ) (blamed : ℕ → Bool) → AllWithin W start → length learn ≡ length start → AreApart start learn → IsLearned (WithPairs W pairs blamed) learn
      → (xs : List ℕ) → WithPairs W pairs blamed xs → ⊥
  nothing_left start learn blamed all long apart learned xs with =
      let found = learned xs with in
      let v = found.0 in
      let inside : v < length start = subst (λ n. v < n) long (subject_inside learn v (slice_index xs v) found.1) in
      both_ways (is_within learn xs v) (apart v (slice_index xs v) (all xs with.0 v inside)) found.1

  -- an entry of whose former values none is learned needs nothing
  pub others_apart : (dom learn : List ℕ) (e : Entry) → IsEntry W pairs dom e → ((a : ℕ) → has e.before a ≡ true → has (slice_index learn e.subject) a ≡ false) → AreApart (narrowed dom e) learn → AreApart dom learn
  others_apart dom learn e right none apart v a held = elim (cases_eq v e.subject) [
    | inl same ↦ subst (λ w. has (slice_index learn w) a ≡ false) (sym same) (none a (ap (λ s. has s a) (right.before ∙ ap (slice_index dom) (sym same)) ∙ held))
    | inr other ↦ apart v a (ap (λ s. has s a) (get_or-set_other dom e.subject v (bit_and e.before e.kept) 0 other) ∙ held)
  ]

  pub undone_front : (start dom learn : List ℕ) (front back : List Entry) (u : ℕ) → IsTrail W pairs start (front ++ back) dom → All (SharesNone learn u) back → AreApartBut u dom learn
      → IsTrail W pairs start front (left_by start front) × AreApartBut u (left_by start front) learn × ((v a : ℕ) → has (slice_index dom v) a ≡ true → has (slice_index (left_by start front) v) a ≡ true)
  undone_front start dom learn front back u t none apart =
      let behind = entries_back W pairs start front back t.entries in
      let leads = t.leads ∙ left_both W pairs start front back in (
        record { entries = entries_front W pairs start front back t.entries; leads = refl },
        undone_apart (left_by start front) learn back u behind none (subst (λ d. AreApartBut u d learn) leads apart),
        λ v a held. left_within (left_by start front) back v a behind (ap (λ d. has (slice_index d v) a) (sym leads) ∙ held),
      )

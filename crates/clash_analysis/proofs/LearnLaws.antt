-- What a resolution, a lower level and a clash say.
use Rattle.std.proofs.Common.{◌≡◌, ◌⊎◌, inl, inr, ℕ, zero, suc, ◌<◌, Bool, true, false, ◌||◌, ◌==◌, not, List, length, set, slice_index, bit_and, sym, ap, subst, ◌∙◌, arith, get_or-set_same, get_or-set_other}
use Rattle.std.proofs.lemmas.Bool.{and_parts, and_from, cases_Bool, cases_eq, cases_lt, eq-eqb, false_from_ne_true, ne_eqb, not-true, not-false, not_from_false, or_cases, or_left, or_parts, or_right, both_ways}
use Rattle.std.proofs.lemmas.List.{get_or_past}
use Rattle.cca_base.specs.Sets.{has}
use Rattle.cca_base.proofs.SetLaws.{has-and, has-empty}
use Rattle.cca_base.specs.declared.cube.Pair.{Pair}
use Rattle.clash_analysis.specs.declared.entry.Entry.{Entry}
use Rattle.clash_analysis.specs.declared.entry.Why.{Why}
use Rattle.clash_analysis.specs.declared.entry.Why.TheVariants.{Assumed, Chosen, Because}
use Rattle.clash_analysis.specs.Subjects.{is_in}
use Rattle.clash_analysis.specs.Trails.{AllWithin, AreApart, IsEntry, IsWhy, is_within, narrowed}
use Rattle.clash_analysis.specs.Learning.{HasPairs, IsBlamed, IsLearned, IsResolved, WithPairs, reason_of}

-- what is in the set is of a subject that there is
pub subject_inside : (sets : List ℕ) (v a : ℕ) → has (slice_index sets v) a ≡ true → v < length sets
subject_inside sets v a h = elim (cases_lt v (length sets)) [
  | inl less ↦ less
  | inr past ↦ absurd (both_ways (has (slice_index sets v) a) (ap (λ s. has s a) (get_or_past sets v 0 past) ∙ has-empty a) h)
]

-- a test over finitely many numbers fails somewhere, or holds of all
first_out : (test : ℕ → Bool) (n : ℕ) → ((v : ℕ) → v < n → test v ≡ true) ⊎ ((v : ℕ) × (v < n) × (test v ≡ false))
first_out test zero = inl (λ v h. absurd (omega arith))
first_out test (suc n) = elim (cases_Bool (test n)) [
  | inl passes ↦ elim (first_out test n) [
    | inl all ↦ inl (λ v h. elim (cases_eq v n) [ inl e ↦ subst (λ k. test k ≡ true) (sym e) passes | inr ne ↦ all v (omega arith) ])
    | inr out ↦ inr (out.0, omega (arith, out.1), out.2)
  ]
  | inr fails ↦ inr (n, omega arith, fails)
]

-- a reason holds of a list, or one of its subjects has a value that was taken
reason_or_out : (dom xs : List ℕ) (reason : ℕ → Bool) → ((v : ℕ) → reason v ≡ true → v < length dom)
    → ((v : ℕ) → reason v ≡ true → is_within dom xs v ≡ true) ⊎ ((v : ℕ) × (reason v ≡ true) × (is_within dom xs v ≡ false))
reason_or_out dom xs reason inside = elim (first_out (λ v. not (reason v) || is_within dom xs v) (length dom)) [
  | inl all ↦ inl (λ v is. elim (or_cases (not (reason v)) (is_within dom xs v) (all v (inside v is))) [
    | inl none ↦ absurd (both_ways (reason v) (not-true (reason v) none) is)
    | inr there ↦ there
  ])
  | inr out ↦ let parts = or_parts (not (reason out.0)) (is_within dom xs out.0) out.2 in inr (out.0, not-false (reason out.0) parts.0, parts.1)
]

module _ (W : List ℕ → Type 0) (pairs : List Pair) where
  -- each world that has the blamed pairs has a kept value, or some subject of the reason has one that was taken
  kept_or_out : (dom : List ℕ) (blamed : ℕ → Bool) (subject kept : ℕ) (why : Why) (xs : List ℕ) → IsWhy W pairs dom subject kept why → IsBlamed blamed subject why
      → W xs → HasPairs pairs blamed xs → (has kept (slice_index xs subject) ≡ true) ⊎ ((v : ℕ) × (reason_of why v ≡ true) × (v < length dom) × (is_within dom xs v ≡ false))
  kept_or_out dom blamed subject kept Assumed xs (p, among, same, holds) is w having =
      inl (subst (λ a. has kept a ≡ true) (sym (having p among (subst (λ u. blamed u ≡ true) (sym same) is)) ∙ ap (slice_index xs) same) holds)
  kept_or_out dom blamed subject kept Chosen xs why is w having = absurd is
  kept_or_out dom blamed subject kept (Because set) xs why is w having = elim (reason_or_out dom xs (is_in set) why.inside) [
    | inl all ↦ inl (why.follows xs w all)
    | inr out ↦ inr (out.0, out.1, why.inside out.0 out.1, out.2)
  ]

  -- the resolved clause is learned
  pub resolved_learned : (start dom learn new : List ℕ) (e : Entry) (blamed more : ℕ → Bool) → AllWithin W start → length dom ≡ length start → length learn ≡ length start → IsEntry W pairs dom e
      → IsResolved start dom e learn new → ((v : ℕ) → blamed v ≡ true → more v ≡ true) → IsBlamed more e.subject e.why
      → IsLearned (WithPairs W pairs blamed) learn → IsLearned (WithPairs W pairs more) new
  resolved_learned start dom learn new e blamed more all long wide right resolved grown is learned xs (w, having) =
      elim (kept_or_out dom more e.subject e.kept e.why xs right.why is w having) [
        | inl kept ↦
            let had = learned xs (w, λ p among b. having p among (grown p.item b)) in
            let v = had.0 in
            let here : v < length learn = subject_inside learn v (slice_index xs v) had.1 in
            let own : (not (v == e.subject) || has e.kept (slice_index xs v)) ≡ true = elim (cases_eq v e.subject) [
              | inl same ↦ or_right (not (v == e.subject)) (has e.kept (slice_index xs v)) (subst (λ u. has e.kept (slice_index xs u) ≡ true) (sym same) kept)
              | inr other ↦ or_left (not (v == e.subject)) (has e.kept (slice_index xs v)) (not_from_false (v == e.subject) (ne_eqb v e.subject other))
            ] in
            (v, resolved.values v (slice_index xs v) here ∙ or_left _ _ (and_from _ _ had.1 own))
        | inr (v, reason, inside, out) ↦ (
          v,
          resolved.values v (slice_index xs v) (omega arith)
              ∙ or_right _ _ (and_from _ _ reason (and_from _ _ (all xs w v (omega arith)) (not_from_false _ out))),
        )
      ]

  -- and is apart from what there was before the entry
  pub resolved_apart : (start dom learn new : List ℕ) (e : Entry) → IsEntry W pairs dom e → IsResolved start dom e learn new → AreApart (narrowed dom e) learn → AreApart dom new
  resolved_apart start dom learn new e right resolved apart v a held = false_from_ne_true (has (slice_index new v) a) (λ there.
      let here : v < length learn = subst (λ n. v < n) resolved.long (subject_inside new v a there) in
      elim (or_cases _ _ (sym (resolved.values v a here) ∙ there)) [
        | inl old ↦
            let parts = and_parts _ _ old in
            elim (cases_eq v e.subject) [
              | inl same ↦
                  let kept : has e.kept a ≡ true = elim (or_cases _ _ parts.1) [
                    | inl other ↦ absurd (both_ways (v == e.subject) (not-true _ other) (eq-eqb v e.subject same))
                    | inr is ↦ is
                  ] in
                  let at : slice_index (narrowed dom e) v ≡ bit_and e.before e.kept = ap (slice_index (narrowed dom e)) same ∙ get_or-set_same dom e.subject (bit_and e.before e.kept) 0 right.inside in
                  let was : has e.before a ≡ true = ap (λ s. has s a) (right.before ∙ ap (slice_index dom) (sym same)) ∙ held in
                  both_ways (has (slice_index learn v) a) (apart v a (ap (λ s. has s a) at ∙ has-and e.before e.kept a ∙ and_from _ _ was kept)) parts.0
              | inr other ↦
                  both_ways (has (slice_index learn v) a) (apart v a (ap (λ s. has s a) (get_or-set_other dom e.subject v (bit_and e.before e.kept) 0 other) ∙ held)) parts.0
            ]
        | inr taken ↦ both_ways (has (slice_index dom v) a) (not-true _ (and_parts _ _ (and_parts _ _ taken).1).1) held
      ])

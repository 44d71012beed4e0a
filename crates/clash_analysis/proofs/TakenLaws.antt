-- Words of bits: what was taken from a subject.
use Rattle.std.proofs.Common.{◌≡◌, ◌≢◌, ℕ, ◌+◌, ◌-◌, ◌^◌, ◌<◌, ◌≤◌, Bool, true, false, ◌&&◌, ◌||◌, not, eqb, List, length, set, slice_index, bit_and, bit_or, inl, inr, refl, sym, ap, subst, ◌∙◌, arith, w64, get_or-set_same, get_or-set_other}
use Rattle.std.specs.Int.{bit_at, bit_not}
use Rattle.std.proofs.lemmas.Bool.{cases_eq, cases_lt, eq-eqb, le-ltb, ne_eqb}
use Rattle.std.proofs.lemmas.Bool.Decides.{nat_tests}
use Rattle.std.proofs.lemmas.Nat.Bits.{bit_at-lt, bit_at_not}
use Rattle.cca_base.specs.Sets.{has}
use Rattle.std.proofs.lemmas.List.{length-set}
use Rattle.cca_base.proofs.SetLaws.{has-and, has-or, has_above}
use Rattle.clash_analysis.specs.declared.entry.Entry.{Entry}
use Rattle.clash_analysis.specs.declared.entry.Why.{Why}
use Rattle.clash_analysis.specs.declared.entry.Why.TheVariants.{Assumed, Chosen, Because}
use Rattle.clash_analysis.specs.declared.subjects.SubjectSet.{SubjectSet}
use Rattle.clash_analysis.specs.Subjects.{is_in}
use Rattle.clash_analysis.specs.Learning.{IsResolved, reason_of}

not_test : (x b : ℕ) → b < 2 → x ≡ 1 - b → eqb x 1 ≡ not (eqb b 1)
not_test x b h e = grind (arith, nat_tests)

left_and : (a b c : Bool) → (a ≡ true → b ≡ c) → (a && b) ≡ (a && c)
left_and true b c h = h refl
left_and false b c h = refl

pub taken_in : (learn start dom : ℕ) → start < 2 ^ 64 → dom < 2 ^ 64 → (a : ℕ) → has (bit_or learn (bit_and start (2 ^ 64 - 1 - dom))) a ≡ (has learn a || (has start a && not (has dom a)))
taken_in learn start dom h k a =
    has-or learn (bit_and start (2 ^ 64 - 1 - dom)) a
    ∙ ap (λ b. has learn a || b) (has-and start (2 ^ 64 - 1 - dom) a ∙ elim (cases_lt a 64) [
      | inl less ↦ ap (λ b. has start a && b) (not_test (bit_at (bit_not w64 dom) a) (bit_at dom a) (bit_at-lt dom a) (bit_at_not w64 dom a k less))
      | inr more ↦ left_and (has start a) _ _ (λ is. let none : has start a ≡ false = sym (has_above 64 start a h more) ∙ le-ltb a 64 more in cc)
    ])

-- what is at one place of a list of sets, with a value put there
pub at_set : (sets : List ℕ) (i new k a : ℕ) (b : Bool) → i < length sets → (k ≡ i → has new a ≡ b) → (k ≢ i → has (slice_index sets k) a ≡ b) → has (slice_index (set sets i new) k) a ≡ b
at_set sets i new k a b h here there = elim (cases_eq k i) [
  | inl same ↦ ap (λ s. has s a) (ap (slice_index (set sets i new)) same ∙ get_or-set_same sets i new 0 h) ∙ here same
  | inr other ↦ ap (λ s. has s a) (get_or-set_other sets i k new 0 other) ∙ there other
]

or_off : (a b c : Bool) → b ≡ false → a ≡ (a || (b && c))
or_off true b c e = refl
or_off false b c e = rw e refl

or_on : (a b c : Bool) → b ≡ true → (a || c) ≡ (a || (b && c))
or_on a b c e = rw e refl

-- ---- one subject more

module _ (test : ℕ → Bool) (taken : ℕ → ℕ → Bool) (first learn : List ℕ) (v : ℕ) (done : (k a : ℕ) → k < v → has (slice_index learn k) a ≡ (has (slice_index first k) a || (test k && taken k a)))
    (still : (k : ℕ) → v ≤ k → slice_index learn k ≡ slice_index first k) where
  pub done_same : test v ≡ false → (k a : ℕ) → k < v + 1 → has (slice_index learn k) a ≡ (has (slice_index first k) a || (test k && taken k a))
  done_same out k a h = elim (cases_eq k v) [
    | inl same ↦ ap (λ s. has s a) (still k (omega arith)) ∙ or_off (has (slice_index first k) a) (test k) (taken k a) (ap test same ∙ out)
    | inr other ↦ done k a (omega arith)
  ]

  pub done_more : (new : ℕ) → v < length learn → test v ≡ true → ((a : ℕ) → has new a ≡ (has (slice_index learn v) a || taken v a)) → (k a : ℕ) → k < v + 1
      → has (slice_index (set learn v new) k) a ≡ (has (slice_index first k) a || (test k && taken k a))
  done_more new inside is added k a h =
      at_set learn v new k a (has (slice_index first k) a || (test k && taken k a)) inside
      (λ same. added a ∙ ap (λ s. has s a || taken v a) (still v (omega arith)) ∙ or_on (has (slice_index first v) a) (test v) (taken v a) is
      ∙ ap (λ n. has (slice_index first n) a || (test n && taken n a)) (sym same))
      (λ other. done k a (omega arith))

  pub still_more : (new : ℕ) → (k : ℕ) → v + 1 ≤ k → slice_index (set learn v new) k ≡ slice_index first k
  still_more new k h = get_or-set_other learn v k new 0 (omega arith) ∙ still k (omega arith)

-- ---- an entry's own subject

own_kept : (a b c : Bool) → c ≡ true → (a && b) ≡ (a && (not c || b))
own_kept a b c e = rw e refl

own_other : (a b c : Bool) → c ≡ false → a ≡ (a && (not c || b))
own_other true b c e = rw e refl
own_other false b c e = refl

pub kept_at : (learn : List ℕ) (u kept v a : ℕ) → u < length learn → has (slice_index (set learn u (bit_and (slice_index learn u) kept)) v) a ≡ (has (slice_index learn v) a && (not (eqb v u) || has kept a))
kept_at learn u kept v a inside =
    at_set learn u (bit_and (slice_index learn u) kept) v a (has (slice_index learn v) a && (not (eqb v u) || has kept a)) inside
    (λ same. has-and (slice_index learn u) kept a ∙ ap (λ n. has (slice_index learn n) a && has kept a) (sym same) ∙ own_kept (has (slice_index learn v) a) (has kept a) (eqb v u) (eq-eqb v u same))
    (λ other. own_other (has (slice_index learn v) a) (has kept a) (eqb v u) (ne_eqb v u other))

-- ---- with or without a reason

pub no_reason : (why : Why) (v : ℕ) → ((set : SubjectSet) → why ≡ Because set → ⊥) → reason_of why v ≡ false
no_reason Assumed v none = refl
no_reason Chosen v none = refl
no_reason (Because set) v none = absurd (none set refl)

pub resolved_without : (start dom learn : List ℕ) (e : Entry) → e.subject < length learn → ((set : SubjectSet) → e.why ≡ Because set → ⊥)
    → IsResolved start dom e learn (set learn e.subject (bit_and (slice_index learn e.subject) e.kept))
resolved_without start dom learn e inside none = record {
  long = length-set learn e.subject (bit_and (slice_index learn e.subject) e.kept);
  values = λ v a h. kept_at learn e.subject e.kept v a inside ∙ plain (has (slice_index learn v) a && (not (eqb v e.subject) || has e.kept a)) (reason_of e.why v) (has (slice_index start v) a && not (has (slice_index dom v) a)) (no_reason e.why v none);
}
  where
    plain : (a b c : Bool) → b ≡ false → a ≡ (a || (b && c))
    plain true b c e = refl
    plain false b c e = rw e refl

pub resolved_with : (start dom learn new : List ℕ) (e : Entry) (reason : SubjectSet) → e.subject < length learn → e.why ≡ Because reason
    → length new ≡ length (set learn e.subject (bit_and (slice_index learn e.subject) e.kept))
    → ((v a : ℕ) → v < length (set learn e.subject (bit_and (slice_index learn e.subject) e.kept)) → has (slice_index new v) a
    ≡ (has (slice_index (set learn e.subject (bit_and (slice_index learn e.subject) e.kept)) v) a || (is_in reason v && (has (slice_index start v) a && not (has (slice_index dom v) a)))))
    → IsResolved start dom e learn new
resolved_with start dom learn new e reason inside because long values = record {
  long = long ∙ length-set learn e.subject (bit_and (slice_index learn e.subject) e.kept);
  values = λ v a h. values v a (subst (λ n. v < n) (sym (length-set learn e.subject (bit_and (slice_index learn e.subject) e.kept))) h)
      ∙ ap (λ b. b || (is_in reason v && (has (slice_index start v) a && not (has (slice_index dom v) a)))) (kept_at learn e.subject e.kept v a inside)
      ∙ ap (λ (w : Why). (has (slice_index learn v) a && (not (eqb v e.subject) || has e.kept a)) || (reason_of w v && (has (slice_index start v) a && not (has (slice_index dom v) a)))) (sym because);
}

-- A printed tick has one verdict, with one of nine reasons, the least whose test fails.
use Rattle.std.proofs.Common.{◌≡◌, ◌≢◌, ◌⊎◌, ℕ, ◌+◌, ◌<◌, ◌≤◌, inl, inr, false, refl, sym, ap, subst, arith}
use Rattle.std.proofs.lemmas.Bool.{cases_order}
use Rattle.cca_base.specs.PlantModel.{PlantModel}
use Rattle.cca_base.specs.Trace.{ExecutiveState}
use Rattle.cca_base.specs.declared.events.Shown.{Shown}
use Rattle.cca_base.specs.declared.events.Shown.TheVariants.{Estimated, Unexplained, Holding}
use Rattle.plan_checker.specs.Reasons.{Printed, AnswersGoal, Passes, IsVerdict}
use Rattle.plan_checker.specs.VerdictLaws.{VerdictLaws}
use Rattle.plan_checker.specs.declared.verdict.Verdict.{Verdict}
use Rattle.plan_checker.specs.declared.verdict.Verdict.TheVariants.{Yes, No}

module _ (m : PlantModel) (x : ExecutiveState) (t : Printed) where
  -- none of the nine
  abbrev IsOther : ℕ → Type 0
  IsOther reason = (reason ≡ 0) ⊎ (9 < reason)

  none : (reason k : ℕ) → 1 ≤ k → k ≤ 9 → IsOther reason → reason ≡ k → ⊥
  none reason k some few (inl zero) e = omega (arith, some, zero, e)
  none reason k some few (inr more) e = omega (arith, few, more, e)

  -- such a reason has no test that fails
  other_passes : (reason : ℕ) → IsOther reason → Passes m x t reason
  other_passes reason h = record {
    line = λ e. absurd (none reason 1 (omega arith) (omega arith) h e);
    cost = λ e. absurd (none reason 2 (omega arith) (omega arith) h e);
    world = λ e. absurd (none reason 3 (omega arith) (omega arith) h e);
    step = λ e. absurd (none reason 4 (omega arith) (omega arith) h e);
    plan = λ e. absurd (none reason 5 (omega arith) (omega arith) h e);
    goal = λ e. absurd (none reason 6 (omega arith) (omega arith) h e);
    back = λ e. absurd (none reason 7 (omega arith) (omega arith) h e);
    answer = λ e. absurd (none reason 8 (omega arith) (omega arith) h e);
    written = λ e. absurd (none reason 9 (omega arith) (omega arith) h e);
  }

  some_reason : (reason : ℕ) → IsVerdict m x t (No reason) → 1 ≤ reason
  some_reason reason h = elim (cases_order 0 reason) [
    | inl zero ↦ absurd (h.0 (other_passes reason (inl (sym zero))))
    | inr (inl more) ↦ omega (arith, more)
    | inr (inr less) ↦ absurd (omega (arith, less))
  ]

  few_reasons : (reason : ℕ) → IsVerdict m x t (No reason) → reason ≤ 9
  few_reasons reason h = elim (cases_order reason 9) [
    | inl nine ↦ omega (arith, nine)
    | inr (inl less) ↦ omega (arith, less)
    | inr (inr more) ↦ absurd (h.0 (other_passes reason (inr more)))
  ]

  one_reason : (a b : ℕ) → IsVerdict m x t (No a) → IsVerdict m x t (No b) → No a ≡ No b
  one_reason a b h k = elim (cases_order a b) [
    | inl same ↦ ap (λ (r : ℕ). No r) same
    | inr (inl less) ↦ absurd (h.0 (k.1 a less))
    | inr (inr more) ↦ absurd (k.0 (h.1 b more))
  ]

  one_verdict : (v w : Verdict) → IsVerdict m x t v → IsVerdict m x t w → v ≡ w
  one_verdict Yes Yes h k = refl
  one_verdict Yes (No b) h k = absurd (k.0 (h b))
  one_verdict (No a) Yes h k = absurd (h.0 (k a))
  one_verdict (No a) (No b) h k = one_reason a b h k

  first_reason : (reason : ℕ) → t.report.tick ≢ x.ticks + 1 → IsVerdict m x t (No reason) → reason ≡ 1
  first_reason reason ne h = elim (cases_order reason 1) [
    | inl same ↦ same
    | inr (inl less) ↦ absurd (let some = some_reason reason h in omega (arith, some, less))
    | inr (inr more) ↦ absurd (ne ((h.1 1 more).line refl).number)
  ]

going_on : (x : ExecutiveState) (shown : Shown) → shown ≢ Holding → AnswersGoal x shown → x.holding ≡ false
going_on x (Estimated cost state reply) ne h = h.0
going_on x Unexplained ne h = h
going_on x Holding ne h = absurd (ne refl)

pub verdict_laws : VerdictLaws
verdict_laws = record {
  one = one_verdict;
  few = λ m x t reason h. (some_reason m x t reason h, few_reasons m x t reason h);
  number = λ m x t h. ((h 1).line refl).number;
  first = first_reason;
  holds = λ m x t is h. subst (AnswersGoal x) is ((h 8).answer refl);
  goes_on = λ m x t ne h. going_on x t.report.shown ne ((h 8).answer refl);
}

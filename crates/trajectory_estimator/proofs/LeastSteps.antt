-- The least of steps, joined from two parts.
use Rattle.std.proofs.Common.{◌≡◌, ◌⊎◌, ℕ, zero, suc, ◌<◌, ◌≤◌, ◌+◌, Bool, true, false, true≢false, length, slice_index_or, Option, Some, None, IfSome, IsNone, refl, sym, subst, ◌∙◌, inl, inr, arith}
use Rattle.std.proofs.lemmas.Bool.{cases_lt}
use Rattle.std.proofs.lemmas.Option.{same_Some}
use Rattle.cca_base.specs.Model.{WellFormed}
use Rattle.cca_base.specs.Sets.{has}
use Rattle.trajectory_estimator.specs.Asked.{Asked}
use Rattle.trajectory_estimator.specs.Steps.{IsLeaving, IsLeastOf, IsStep, IsStepCost, IsStepTo, IsStepToBy}
use Rattle.trajectory_estimator.specs.WalkLaws.{step_mode}
use Rattle.trajectory_estimator.specs.Walks.{StepBy, stands_for}
use Rattle.trajectory_estimator.specs.declared.leaving.Leaving.{Leaving}
use Rattle.trajectory_estimator.specs.declared.step.Ahead.{Ahead}
use Rattle.trajectory_estimator.specs.declared.step.Step.{Step}
use Rattle.trajectory_estimator.proofs.GateCosts.{step_one}

-- where there is no least step, there is none
no_steps : (P : Step → Type 0) (o : Option Step) → IsNone o → IsLeastOf P o → (t : Step) → P t → ⊥
no_steps P None none h t is = h t is
no_steps P (Some s) none h t is = absurd (true≢false none)

-- what the least step costs at least, each costs at least
no_more : (P : Step → Type 0) (o : Option Step) → IsLeastOf P o → (cost : ℕ) → IfSome o (λ s. cost ≤ s.total) → (t : Step) → P t → cost ≤ t.total
no_more P None h cost less t is = absurd (h t is)
no_more P (Some s) h cost less t is = omega (arith, h.1 t is, less)

-- the lesser of the least of two parts is the least of both
join : (P Q R : Step → Type 0) → ((s : Step) → P s → R s) → ((s : Step) → Q s → R s) → ((s : Step) → R s → P s ⊎ Q s) → (a b o : Option Step) → IsLeastOf P a → IsLeastOf Q b
    → (IsNone o → IsNone a × IsNone b) → IfSome o (λ s. (a ≡ Some s) ⊎ (b ≡ Some s)) → IfSome o (λ s. IfSome a (λ t. s.total ≤ t.total) × IfSome b (λ t. s.total ≤ t.total)) → IsLeastOf R o
join P Q R of_p of_q parts a b None h k none one least = λ s is. elim (parts s is) [
  | inl p ↦ no_steps P a (none refl).0 h s p
  | inr q ↦ no_steps Q b (none refl).1 k s q
]
join P Q R of_p of_q parts a b (Some s) h k none one least = (
  elim one [ inl e ↦ of_p s (subst (IsLeastOf P) e h).0 | inr e ↦ of_q s (subst (IsLeastOf Q) e k).0 ],
  λ t is. elim (parts t is) [ inl p ↦ no_more P a h s.total least.0 t p | inr q ↦ no_more Q b k s.total least.1 t q ],
)

-- ---- one mode and one gate

module _ (q : Asked) (c at from : ℕ) (ahead : Ahead) (to gate : ℕ) where
  -- a step to the mode by the gate costs what the step by it costs
  costs_by : (s : Step) → IsStepToBy q c at from ahead to gate s → StepBy q c at gate from to s.own
  costs_by s ((step, e), g) = subst (λ z. StepBy q c at gate from z s.own) e (subst (λ z. StepBy q c at z from s.to s.own) g step.costs)

  -- without a cost there is no step
  pub by_none : (o : Option Step) → o ≡ None → IsStepCost q c at gate from to None → IsLeastOf (IsStepToBy q c at from ahead to gate) o
  by_none o e none = subst (IsLeastOf (IsStepToBy q c at from ahead to gate)) (sym e) (λ s is. none s.own (costs_by s is))

  -- else there is one of one cost
  pub by_some : (own rest total : ℕ) → WellFormed q.model → has ahead.modes to ≡ true → has ahead.gates gate ≡ true → slice_index_or ahead.rests.now to None ≡ Some rest
      → IsStepCost q c at gate from to (Some own) → total ≡ own + rest → IsLeastOf (IsStepToBy q c at from ahead to gate) (Some (record { to = to; gate = gate; own = own; total = total }))
  by_some own rest total good mode may behind costs whole = (
    ((record { to = mode; gate = may; costs = costs.0; rest = rest; behind = behind; total = whole }, refl), refl),
    λ s is.
        let step = is.0.0 in
        let cost : own ≡ s.own = step_one q c at gate from to own s.own good costs.0 (costs_by s is) in
        let there : slice_index_or ahead.rests.now to None ≡ Some step.rest = subst (λ z. slice_index_or ahead.rests.now z None ≡ Some step.rest) is.0.1 step.behind in
        let left : rest ≡ step.rest = same_Some rest step.rest (sym behind ∙ there) in
        omega (arith, cost, left, whole, step.total),
  )

-- ---- one mode and any gate

module _ (q : Asked) (c at from : ℕ) (ahead : Ahead) (to : ℕ) where
  abbrev By : ℕ → Step → Type 0
  By gate s = IsStepToBy q c at from ahead to gate s

  abbrev ByOpen : Step → Type 0
  ByOpen s = By 2 s ⊎ By 1 s

  -- each step is by one of three values
  by_gate : (s : Step) → IsStepTo q c at from ahead to s → ByOpen s ⊎ By 0 s
  by_gate s is = named s.gate refl is.0.costs.small
    where
      named : (gate : ℕ) → s.gate ≡ gate → gate < 3 → ByOpen s ⊎ By 0 s
      named zero e small = inr (is, e)
      named (suc zero) e small = inl (inr (is, e))
      named (suc (suc zero)) e small = inl (inl (is, e))
      named (suc (suc (suc gate))) e small = absurd (omega arith)

  -- the step by either is the least: by one gate it costs the same
  pub by_either : (s : Step) → WellFormed q.model → IsLeastOf (By 2) (Some s) → IsLeastOf (IsStepTo q c at from ahead to) (Some s)
  by_either s good (is, least) = (is.0, λ t there. same t there)
    where
      -- by each gate for which a value stands
      own_by : (gate : ℕ) → gate < 3 → StepBy q c at gate from to s.own
      own_by gate small = record {
        small = small;
        each = λ g stands. (subst (λ v. StepBy q c at v from to s.own) is.1 (subst (λ z. StepBy q c at s.gate from z s.own) is.0.1 is.0.0.costs)).each g (either g);
      }
        where
          either : (g : Bool) → stands_for 2 g ≡ true
          either true = refl
          either false = refl

      same : (t : Step) → IsStepTo q c at from ahead to t → s.total ≤ t.total
      same t (step, e) =
          let costs : StepBy q c at t.gate from to t.own = subst (λ z. StepBy q c at t.gate from z t.own) e step.costs in
          let cost : s.own ≡ t.own = step_one q c at t.gate from to s.own t.own good (own_by t.gate step.costs.small) costs in
          let mine = subst (λ z. slice_index_or ahead.rests.now z None ≡ Some is.0.0.rest) is.0.1 is.0.0.behind in
          let there = subst (λ z. slice_index_or ahead.rests.now z None ≡ Some step.rest) e step.behind in
          let left : is.0.0.rest ≡ step.rest = same_Some is.0.0.rest step.rest (sym mine ∙ there) in
          omega (arith, cost, left, is.0.0.total, step.total)

  -- where there is none by either, the least by an open gate
  pub beside_none : (b : Option Step) → IsLeastOf (By 2) None → IsLeastOf (By 1) b → IsLeastOf ByOpen b
  beside_none None h k = λ s is. elim is [ inl two ↦ h s two | inr one ↦ k s one ]
  beside_none (Some s) h k = (inr k.0, λ t is. elim is [ inl two ↦ absurd (h t two) | inr one ↦ k.1 t one ])

  -- with the third, the least of all
  pub by_all : (a b o : Option Step) → IsLeastOf ByOpen a → IsLeastOf (By 0) b
      → (IsNone o → IsNone a × IsNone b) → IfSome o (λ s. (a ≡ Some s) ⊎ (b ≡ Some s)) → IfSome o (λ s. IfSome a (λ t. s.total ≤ t.total) × IfSome b (λ t. s.total ≤ t.total))
      → IsLeastOf (IsStepTo q c at from ahead to) o
  by_all = join ByOpen (By 0) (IsStepTo q c at from ahead to) (λ s is. elim is [ inl two ↦ two.0 | inr one ↦ one.0 ]) (λ s is. is.0) by_gate

-- ---- one mode after the other

-- a step to a mode below a bound
abbrev pub IsStepBelow : Asked → ℕ → ℕ → ℕ → Ahead → ℕ → Step → Type 0
IsStepBelow q c at from ahead bound s = IsStep q c at from ahead s × (s.to < bound)

module _ (q : Asked) (c at from : ℕ) (ahead : Ahead) where
  -- below zero there is no step
  pub below_none : IsLeastOf (IsStepBelow q c at from ahead 0) None
  below_none s is = absurd (omega (arith, is.1))

  -- with the steps to the next mode, the least below the next bound
  pub below_more : (bound : ℕ) (a b o : Option Step) → IsLeastOf (IsStepBelow q c at from ahead bound) a → IsLeastOf (IsStepTo q c at from ahead bound) b
      → (IsNone o → IsNone a × IsNone b) → IfSome o (λ s. (a ≡ Some s) ⊎ (b ≡ Some s)) → IfSome o (λ s. IfSome a (λ t. s.total ≤ t.total) × IfSome b (λ t. s.total ≤ t.total))
      → IsLeastOf (IsStepBelow q c at from ahead (bound + 1)) o
  below_more bound =
      join (IsStepBelow q c at from ahead bound) (IsStepTo q c at from ahead bound) (IsStepBelow q c at from ahead (bound + 1))
      (λ s is. (is.0, omega (arith, is.1))) (λ s is. (is.0, omega (arith, is.1)))
      (λ s is. elim (cases_lt s.to bound) [ inl less ↦ inl (is.0, less) | inr more ↦ inr (is.0, omega (arith, is.1, more)) ])

-- all modes of the component are below the number of its failures
pub below_all : (q : Asked) (c at : ℕ) (l : Leaving) (ahead : Ahead) (bound : ℕ) (o : Option Step) → IsLeaving q c at l → length l.failures.now ≤ bound
    → IsLeastOf (IsStepBelow q c at l.from ahead bound) o → IsLeastOf (IsStep q c at l.from ahead) o
below_all q c at l ahead bound None h all least = λ s is. least s (is, within s is)
  where
    within : (s : Step) → IsStep q c at l.from ahead s → s.to < bound
    within s is = omega (arith, step_mode q c at s.gate l.from s.to s.own h.model h.mode is.costs, h.full, all)
below_all q c at l ahead bound (Some s) h all least = (
  least.0.0,
  λ t is. least.1 t (is, (omega (arith, step_mode q c at t.gate l.from t.to t.own h.model h.mode is.costs, h.full, all))),
)

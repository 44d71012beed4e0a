-- The end of an allowed plan has a way back, and one way back makes each step of a run allowed.
use Rattle.std.proofs.Common.{◌≡◌, ℕ, List, [], ◌∷◌, ◌++◌, slice_get, Some, refl, sym, subst, ◌∙◌, inl, inr}
use Rattle.std.proofs.lemmas.List.Elements.{All-weaker}
use Rattle.cca_laws.proofs.PlanLaws.{mends_itself, allowed_run}
use Rattle.cca_base.specs.PlantModel.{PlantModel}
use Rattle.cca_base.specs.Model.{RepairsFit}
use Rattle.cca_base.specs.Repairs.{Mending}
use Rattle.cca_base.specs.Steps.{StepKind, Leads, Step, Run, Allowed, AllowedPlan, Reach}
use Rattle.reach_laws.specs.Laws.{Returns}
use Rattle.cca_base.proofs.Commands.{one_step}
use Rattle.check_laws.specs.Laws.{MadeAgain, OneWayBack, PlansReturn, CheckedPlanBegins, TestsAreExact, OneEnd}
use Rattle.reach_laws.proofs.MendingLaws.{mending_join, repair_leads}
use Rattle.check_laws.proofs.StepsAgain.{step_again, run_again}

-- ---- runs

leads_join : (P : StepKind) (s t u : List ℕ) (ks ls : List ℕ) → Leads P s ks t → Leads P t ls u → Leads P s (ks ++ ls) u
leads_join P s t u [] ls r q = subst (λ x. Leads P x ls u) r q
leads_join P s t u (k ∷ ks) ls r q = (r.0, r.1, leads_join P r.0 t u ks ls r.2 q)

pub one_end : OneEnd
one_end m fit s t u [] r q = r ∙ sym q
one_end m fit s t u (k ∷ ks) r q =
    let same = (one_step m fit s r.0 q.0 k r.1 q.1).1 in
    one_end m fit r.0 t u ks r.2 (subst (λ x. Run m x ks u) (sym same) q.2)

-- ---- ways back

-- each step of a run whose end leads back has a way back: the way back of the first step goes on to the end, and home
pub one_way_back : OneWayBack
one_way_back m fit s t u [] ls r q h = r
one_way_back m fit s t u (k ∷ ks) ls r q h =
    let mid : List ℕ = r.0 in
    let allowed : Allowed m s k mid = record { step = r.1; back = inr (ks ++ ls, u, leads_join (Step m) mid t u ks ls r.2 q, h) } in
    elim (step_again m fit s mid u k h r.1) [
      | inl already ↦ (mid, allowed, one_way_back m fit mid t u ks ls r.2 q already.1)
      | inr again ↦
          let longer : Run m t (ls ++ k ∷ []) again.0 = leads_join (Step m) t u again.0 ls (k ∷ []) q (again.0, again.1, refl) in
          (mid, allowed, one_way_back m fit mid t again.0 ks (ls ++ k ∷ []) r.2 longer again.2)
    ]

-- the end of an allowed plan has a way back to a mending of its start
plan_back : (m : PlantModel) → RepairsFit m.version m.moves → (s t ks : List ℕ) → AllowedPlan m s ks t → Returns m s t
plan_back m fit s t [] r = ([], t, refl, subst (Mending m s) (sym r) (mends_itself m s))
plan_back m fit s t (k ∷ ks) r =
    let mid : List ℕ = r.0 in
    let rest : Returns m mid t = plan_back m fit mid t ks r.2 in
    elim (r.1.back) [
      | inl repair ↦ (rest.0, rest.1, rest.2, mending_join m s mid rest.1 (repair_leads m s mid k r.1.step repair) rest.3)
      | inr back ↦
          let more : MadeAgain m rest.1 back.0 back.1 = run_again m fit mid rest.1 back.1 back.0 rest.3 back.2 in (
            rest.0 ++ more.left,
            more.last,
            leads_join (Step m) t rest.1 more.last rest.0 more.left rest.2 more.run,
            mending_join m s back.1 more.last back.3 more.mends,
          )
    ]

pub plans_return : PlansReturn
plans_return m fit s t ks = (
  λ plan. (allowed_run m s t ks plan, plan_back m fit s t ks plan),
  λ h. one_way_back m fit s t h.1.1 ks h.1.0 h.0 h.1.2 h.1.3,
)

-- ---- checked plans

pub checked_plan_begins : CheckedPlanBegins
checked_plan_begins m fit s t u rest ls k goal r stands q h =
    let plan : AllowedPlan m s (k ∷ rest) t = one_way_back m fit s t u (k ∷ rest) ls r q h in (
      record { others = rest; last = t; plan = plan; stands = stands },
      All-weaker (λ p. slice_get t p.item ≡ Some p.value) (λ p. Reach m s p.item p.value) (λ p there. (k ∷ rest, t, plan, there)) goal stands,
    )

pub tests_are_exact : TestsAreExact
tests_are_exact m fit s goal k = (
  λ begins. record {
    others = begins.others;
    there = begins.last;
    plan = allowed_run m s begins.last (k ∷ begins.others) begins.plan;
    stands = begins.stands;
    back = plan_back m fit s begins.last (k ∷ begins.others) begins.plan;
  },
  λ h. record {
    others = h.others;
    last = h.there;
    plan = one_way_back m fit s h.there h.back.1 (k ∷ h.others) h.back.0 h.plan h.back.2 h.back.3;
    stands = h.stands;
  },
)

-- The verdict on a command, its plan and its way back, from how far the steps went.
use Rattle.std.proofs.Common.{◌≡◌, ◌↔◌, ℕ, Bool, IsTrue, List, ◌∷◌, Option, Some, refl, sym, subst, inl, inr}
use Rattle.std.specs.Prelude.{IfSome}
use Rattle.cca_base.specs.declared.cube.Pair.{Pair}
use Rattle.cca_base.specs.declared.events.PlanEnd.{PlanEnd}
use Rattle.cca_base.specs.declared.events.PlanEnd.TheVariants.{Plan, Long}
use Rattle.cca_base.specs.declared.events.Reply.{Reply}
use Rattle.cca_base.specs.declared.events.Reply.TheVariants.{Send}
use Rattle.cca_base.specs.declared.events.Route.{Route}
use Rattle.cca_base.specs.declared.events.Shown.{Shown}
use Rattle.cca_base.specs.declared.events.Shown.TheVariants.{Estimated}
use Rattle.cca_base.specs.declared.events.TickReport.{TickReport}
use Rattle.cca_base.specs.declared.state.State.{State}
use Rattle.cca_base.specs.declared.state.World.{World}
use Rattle.cca_base.specs.PlantModel.{PlantModel}
use Rattle.cca_base.specs.Model.{CommandsFit}
use Rattle.cca_base.specs.State.{Extends}
use Rattle.cca_base.specs.Steps.{Step, Run}
use Rattle.cca_base.specs.Trace.{ExecutiveState}
use Rattle.cca_base.proofs.Commands.{one_step}
use Rattle.check_laws.proofs.CheckedPlans.{one_end}
use Rattle.plan_checker.specs.declared.reasons.TheConstants.{STEP, PLAN, GOAL, BACK}
use Rattle.plan_checker.specs.declared.verdict.Verdict.{Verdict}
use Rattle.plan_checker.specs.declared.verdict.Verdict.TheVariants.{Yes, No}
use Rattle.plan_checker.specs.Reasons.{OnCommands, ExplainsTick, HasItsWorld, IsPlanFrom, IsWayBack}
use Rattle.plan_checker.specs.Routes.{IsRouteVerdict, IsSendVerdict, EndsInMending}
use Rattle.plan_checker.specs.Steps.{NoStep, NoRun}

-- ---- what is printed, by what it is

module _ (m : PlantModel) (x : ExecutiveState) (report : TickReport) (cost : ℕ) (state : State) where
  -- the verdict on a sent command and its route is that on what is printed
  pub send_verdict : (world : Option World) (printed : Option Route) (k : ℕ) (r : Route) → report.shown ≡ Estimated cost state (Send k) → printed ≡ Some r → (v : Verdict)
      → IsRouteVerdict m state.modes x.goal k r v → IsSendVerdict m x (record { report = report; world = world; route = printed }) v
  send_verdict world printed k r shows routes v h =
      let P : Shown → Option Route → Type 0 = λ shown route. IsSendVerdict m x (record { report = record report { shown = shown }; world = world; route = route }) v in
      subst (λ shown. P shown printed) (sym shows) (subst (P (Estimated cost state (Send k))) (sym routes) h)

  -- the values that explain the tick are those that are printed
  pub world_explains : (world : Option World) (printed : Option Route) (reply : Reply) (w : World) → report.shown ≡ Estimated cost state reply → world ≡ Some w → (b : Bool)
      → IsTrue b ↔ ExplainsTick m x state.modes w.values → IsTrue b ↔ HasItsWorld m x (record { report = report; world = world; route = printed })
  world_explains world printed reply w shows has b h =
      let P : Shown → Option World → Type 0 = λ shown some. IsTrue b ↔ HasItsWorld m x (record { report = record report { shown = shown }; world = some; route = printed }) in
      subst (λ shown. P shown world) (sym shows) (subst (P (Estimated cost state reply)) (sym has) h)

-- ---- the route

-- a step from a copy of the state is one from the state
pub step_from : {m : PlantModel} {copy state : State} {k : ℕ} {next : List ℕ} → copy ≡ state → Step m copy.modes k next → Step m state.modes k next
step_from {m = m} {k = k} {next = next} same step = subst (λ (l : State). Step m l.modes k next) same step

-- a plan and a way back
abbrev pub route : PlanEnd → PlanEnd → Route
route plan back = record { plan = plan; back = back }

module _ (m : PlantModel) (s : List ℕ) (goal : Option (List Pair)) (k : ℕ) (back : PlanEnd) where
  pub no_step : (plan : PlanEnd) → NoStep m s k → IsRouteVerdict m s goal k (route plan back) (No STEP)
  no_step plan none = inl (refl, λ h. none h.0 h.1)

  module _ (mid : List ℕ) (step : Step m s k mid) where
    pub not_begun : (ks : List ℕ) → ((others : List ℕ) → ks ≡ k ∷ others → ⊥) → IsRouteVerdict m s goal k (route (Plan ks) back) (No PLAN)
    not_begun ks other = inr (inl (refl, (mid, step), λ h. other h.0.0 h.0.1))

    module _ (fit : CommandsFit m.moves) (ks rest : List ℕ) (e : ks ≡ k ∷ rest) where
      after_first : (last : List ℕ) → Run m s ks last → Run m mid rest last
      after_first last r =
          let p : Run m s (k ∷ rest) last = subst (λ l. Run m s l last) e r in
          subst (λ z. Run m z rest last) (one_step m fit s p.0 mid k p.1 step).1 p.2

      pub not_run : NoRun m mid rest → IsRouteVerdict m s goal k (route (Plan ks) back) (No PLAN)
      not_run none = inr (inl (refl, (mid, step), λ h. none h.1.0 (after_first h.1.0 h.1.1)))

      module _ (there : List ℕ) (run : Run m mid rest there) where
        runs : Run m s ks there
        runs = subst (λ l. Run m s l there) (sym e) (mid, step, run)

        plan_from : IsPlanFrom m s k ks
        plan_from = ((rest, e), (there, runs))

        ends_there : (last : List ℕ) → Run m s ks last → there ≡ last
        ends_there last r = one_end m fit s there last ks runs r

        goal_stands : IfSome goal (Extends there) → (last : List ℕ) → Run m s ks last → IfSome goal (Extends last)
        goal_stands stands last r = subst (λ t. IfSome goal (Extends t)) (ends_there last r) stands

        pub no_goal : (IfSome goal (Extends there) → ⊥) → IsRouteVerdict m s goal k (route (Plan ks) back) (No GOAL)
        no_goal fails = inr (inr (inl (refl, (mid, step), plan_from, λ h. fails (h there runs))))

        home : (end : PlanEnd) → OnCommands end (EndsInMending m s there) → OnCommands end (IsWayBack m s ks)
        home (Plan ls) leads = λ last r. subst (λ t. EndsInMending m s t ls) (ends_there last r) leads
        home Long leads = tt

        from_home : (end : PlanEnd) → OnCommands end (IsWayBack m s ks) → OnCommands end (EndsInMending m s there)
        from_home (Plan ls) way = way there runs
        from_home Long way = tt

        pub not_home : IfSome goal (Extends there) → (OnCommands back (EndsInMending m s there) → ⊥) → IsRouteVerdict m s goal k (route (Plan ks) back) (No BACK)
        not_home stands fails = inr (inr (inr (refl, (mid, step), plan_from, goal_stands stands, λ h. fails (from_home back h))))

        pub all_pass : IfSome goal (Extends there) → OnCommands back (EndsInMending m s there) → IsRouteVerdict m s goal k (route (Plan ks) back) Yes
        all_pass stands leads = ((mid, step), plan_from, goal_stands stands, home back leads)

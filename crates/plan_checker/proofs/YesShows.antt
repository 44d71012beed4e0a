-- What a yes shows: a consistent estimate, a reply that fits the goal, and a command that begins an allowed plan.
use Rattle.std.proofs.Common.{◌≡◌, ◌⊎◌, ℕ, false, List, ◌∷◌, Option, Some, None, slice_get, Contains, refl, sym, ap, subst, ◌∙◌, inl, inr}
use Rattle.std.specs.Prelude.{IfSome}
use Rattle.std.proofs.lemmas.Bool.{false≢true}
use Rattle.std.proofs.lemmas.List.Elements.{All-contains}
use Rattle.cca_base.specs.declared.cube.Pair.{Pair}
use Rattle.cca_base.specs.declared.events.PlanEnd.{PlanEnd}
use Rattle.cca_base.specs.declared.events.PlanEnd.TheVariants.{Plan, Long}
use Rattle.cca_base.specs.declared.events.Reply.{Reply}
use Rattle.cca_base.specs.declared.events.Reply.TheVariants.{Idle, Send, Achieved, Unreachable}
use Rattle.cca_base.specs.declared.events.Route.{Route}
use Rattle.cca_base.specs.declared.events.Shown.{Shown}
use Rattle.cca_base.specs.declared.events.Shown.TheVariants.{Estimated, Unexplained, Holding}
use Rattle.cca_base.specs.declared.state.State.{State}
use Rattle.cca_base.specs.declared.state.World.{World}
use Rattle.cca_base.specs.PlantModel.{PlantModel}
use Rattle.cca_base.specs.Model.{WellFormed}
use Rattle.cca_base.specs.Repairs.{Mending}
use Rattle.cca_base.specs.State.{IsState, Extends}
use Rattle.cca_base.specs.Steps.{Step, Run, AllowedPlan}
use Rattle.cca_base.specs.Trace.{ExecutiveState}
use Rattle.trace_laws.proofs.CommandsServe.{supported}
use Rattle.check_laws.proofs.CheckedPlans.{one_way_back}
use Rattle.plan_checker.specs.declared.verdict.Verdict.{Verdict}
use Rattle.plan_checker.specs.declared.verdict.Verdict.TheVariants.{Yes, No}
use Rattle.plan_checker.specs.Checked.{OnYes, IsReplyFor, IsSafeCommand, ShowsSuccessor, ShowsReply, ShowsSafety}
use Rattle.plan_checker.specs.Reasons.{Printed, OnEstimate, FitsGoal, IsVerdict}
use Rattle.plan_checker.specs.Worlds.{SomeAreSeen}
use Rattle.plan_checker.proofs.WorldParts.{agrees}

-- ---- replies

reply_for : (s : List ℕ) (goal : Option (List Pair)) (reply : Reply) → FitsGoal s goal reply → IsReplyFor s goal reply
reply_for s None reply e = record {
  idle = ((λ _. refl), (λ _. e));
  achieved = λ pairs h. absurd cc;
  unreachable = λ c mode h. absurd cc;
}
reply_for s (Some goal) Idle h = absurd h
reply_for s (Some goal) Achieved h = record {
  idle = ((λ e. absurd cc), (λ e. absurd cc));
  achieved = λ pairs e. ((λ _. (let same : goal ≡ pairs = cc in subst (Extends s) same h)), (λ _. refl));
  unreachable = λ c mode e. absurd cc;
}
reply_for s (Some goal) (Send k) h = record {
  idle = ((λ e. absurd cc), (λ e. absurd cc));
  achieved = λ pairs e. ((λ f. absurd cc), (λ extends. (let same : pairs ≡ goal = cc in absurd (h (subst (Extends s) same extends)))));
  unreachable = λ c mode e. absurd cc;
}
reply_for s (Some goal) (Unreachable c mode) h = record {
  idle = ((λ e. absurd cc), (λ e. absurd cc));
  achieved = λ pairs e. (
    (λ f. absurd cc),
    (λ extends.
        (let same : goal ≡ pairs = cc in
        absurd (h.1 (All-contains (λ q. slice_get s q.item ≡ Some q.value) pairs (record { item = c; value = mode }) extends (subst (λ l. Contains l (record { item = c; value = mode })) same h.0))))),
  );
  unreachable = λ d other e.
      let own : c ≡ d = cc in
      let same : mode ≡ other = cc in
      (goal, refl, subst (λ p. Contains goal p) (λ i. record { item = own i; value = same i }) h.0, λ stands. h.1 (ap (slice_get s) own ∙ stands ∙ ap Some (sym same)));
}

-- ---- the parts of what is printed

goal_cases : (goal : Option (List Pair)) → (goal ≡ None) ⊎ ((pairs : List Pair) × (goal ≡ Some pairs))
goal_cases None = inl refl
goal_cases (Some pairs) = inr (pairs, refl)

module _ (m : PlantModel) (good : WellFormed m) (x : ExecutiveState) (tick : ℕ) where
  abbrev printed_as : Shown → Option World → Option Route → Printed
  printed_as shown world route = record { report = record { tick = tick; shown = shown }; world = world; route = route }

  successor : (shown : Shown) (world : Option World) (route : Option Route) → IsVerdict m x (printed_as shown world route) Yes
      → OnEstimate shown (λ cost s reply. SomeAreSeen m x) → ShowsSuccessor m x (printed_as shown world route)
  successor Unexplained world route v seen = tt
  successor Holding world route v seen = tt
  successor (Estimated cost state reply) None route v seen = absurd (false≢true ((v 1).line refl).world)
  successor (Estimated cost state reply) (Some w) route v (seen, are) =
      let explained = (v 3).world refl in
      let going : x.holding ≡ false = ((v 8).answer refl).0 in
      record {
        seen = seen;
        observed = are.observed going;
        consistent = record { costs = (v 2).cost refl; world = w.values; is_world = explained.world; agrees = agrees m x state.modes w.values seen are explained };
      }

  replies : (shown : Shown) (world : Option World) (route : Option Route) → IsVerdict m x (printed_as shown world route) Yes → ShowsReply x (printed_as shown world route)
  replies Unexplained world route v = tt
  replies Holding world route v = tt
  replies (Estimated cost state reply) world route v = reply_for state.modes x.goal reply ((v 8).answer refl).1

  -- a sent command with its plan and way back, written out
  module _ (s : List ℕ) (k : ℕ) (ks ls : List ℕ) (state : IsState m s) (pairs : List Pair) (in_force : x.goal ≡ Some pairs) where
    abbrev the_route : Route
    the_route = record { plan = Plan ks; back = Plan ls }

    safe : (next : List ℕ) → Step m s k next → (others : List ℕ) → ks ≡ k ∷ others → (there : List ℕ) → Run m s ks there → IfSome x.goal (Extends there)
        → (last : List ℕ) → Run m there ls last → Mending m s last → IsSafeCommand m s x.goal k (Some the_route)
    safe next step others e there run reached last back mends =
        let whole : Run m s (k ∷ others) there = subst (λ l. Run m s l there) e run in
        let plan : AllowedPlan m s (k ∷ others) there = one_way_back m good.repairs s there last (k ∷ others) ls whole back mends in
        let stands : Extends there pairs = subst (λ (g : Option (List Pair)). IfSome g (Extends there)) in_force reached in
        record {
          guard = (
            step.move,
            record { of_model = step.of_model; command = ap Some (sym step.command); source = step.source; guard = step.guard s state (supported m s k next step) },
          );
          pairs = pairs;
          in_force = in_force;
          begins = record { others = others; last = there; plan = plan; stands = stands };
          printed = (the_route, refl, record { others = others; there = there; printed = ap Plan e; allowed = plan; stands = stands });
        }

  sent : (cost : ℕ) (state : State) (k : ℕ) (world : Option World) (plan back : PlanEnd)
      → IsVerdict m x (printed_as (Estimated cost state (Send k)) world (Some (record { plan = plan; back = back }))) Yes
      → IsSafeCommand m state.modes x.goal k (Some (record { plan = plan; back = back }))
  sent cost state k world Long back v = absurd ((v 9).written refl).0
  sent cost state k world (Plan ks) Long v = absurd ((v 9).written refl).1
  sent cost state k world (Plan ks) (Plan ls) v = elim (goal_cases x.goal) [
    | inl none ↦
        let idle : Send k ≡ Idle = subst (λ (g : Option (List Pair)). FitsGoal state.modes g (Send k)) none ((v 8).answer refl).1 in
        absurd cc
    | inr some ↦
        let step = (v 4).step refl in
        let plan = (v 5).plan refl in
        let back = (v 7).back refl plan.1.0 plan.1.1 in
        safe state.modes k ks ls ((v 2).cost refl).state some.0 some.1 step.0 step.1 plan.0.0 plan.0.1 plan.1.0 plan.1.1 ((v 6).goal refl plan.1.0 plan.1.1) back.0 back.1 back.2
  ]

  safety : (shown : Shown) (world : Option World) (route : Option Route) → IsVerdict m x (printed_as shown world route) Yes → ShowsSafety m x (printed_as shown world route)
  safety Unexplained world route v = tt
  safety Holding world route v = tt
  safety (Estimated cost state Idle) world route v = tt
  safety (Estimated cost state Achieved) world route v = tt
  safety (Estimated cost state (Unreachable c mode)) world route v = tt
  safety (Estimated cost state (Send k)) world None v = absurd (false≢true ((v 1).line refl).route)
  safety (Estimated cost state (Send k)) world (Some r) v = sent cost state k world r.plan r.back v

-- what holds where the verdict is yes holds on yes
on_yes : (P : Type 0) (v : Verdict) → (v ≡ Yes → P) → OnYes v P
on_yes P Yes h = h refl
on_yes P (No reason) h = tt

-- on yes all three are shown, of the state that is seen from outside
pub yes_shows : (m : PlantModel) (x z : ExecutiveState) (t : Printed) (verdict : Verdict) → WellFormed m → x ≡ z → IsVerdict m x t verdict
    → OnYes verdict (OnEstimate t.report.shown (λ cost s reply. SomeAreSeen m x))
    → OnYes verdict (ShowsSuccessor m z t) × OnYes verdict (ShowsReply z t) × OnYes verdict (ShowsSafety m z t)
yes_shows m x z t verdict good same v seen =
    let is : verdict ≡ Yes → IsVerdict m x t Yes = λ e. subst (IsVerdict m x t) e v in
    subst (λ (y : ExecutiveState). OnYes verdict (ShowsSuccessor m y t) × OnYes verdict (ShowsReply y t) × OnYes verdict (ShowsSafety m y t)) same (
      on_yes (ShowsSuccessor m x t) verdict (λ e. successor m good x t.report.tick t.report.shown t.world t.route (is e) (subst (λ (w : Verdict). OnYes w (OnEstimate t.report.shown (λ cost s reply. SomeAreSeen m x))) e seen)),
      on_yes (ShowsReply x t) verdict (λ e. replies m good x t.report.tick t.report.shown t.world t.route (is e)),
      on_yes (ShowsSafety m x t) verdict (λ e. safety m good x t.report.tick t.report.shown t.world t.route (is e)),
    )

-- What proves a tick of a run passes each of the checker's nine tests, and the checker takes what the tick shows.
use Rattle.std.proofs.Common.{◌≡◌, ◌+◌, ℕ, IsTrue, List, [], ◌∷◌, Option, Some, None, Contains, refl, sym, ap, subst, ◌∙◌}
use Rattle.std.specs.Prelude.{IfSome, slice_get}
use Rattle.std.specs.Option.{is_some}
use Rattle.std.proofs.lemmas.List.Elements.{All-contains, Contains-append_right}
use Rattle.std.proofs.lemmas.List.Sorted.{Contains-permutation, IsPermutation-sym}
use Rattle.std.proofs.lemmas.Option.{same_Some}
use Rattle.list_laws.proofs.Members.{contains_here}
use Rattle.cca_base.specs.declared.cube.Pair.{Pair}
use Rattle.cca_base.specs.declared.events.PlanEnd.{PlanEnd}
use Rattle.cca_base.specs.declared.events.PlanEnd.TheVariants.{Plan, Long}
use Rattle.cca_base.specs.declared.events.Reply.{Reply}
use Rattle.cca_base.specs.declared.events.Reply.TheVariants.{Idle, Send, Achieved, Unreachable}
use Rattle.cca_base.specs.declared.events.Route.{Route}
use Rattle.cca_base.specs.declared.events.Shown.{Shown}
use Rattle.cca_base.specs.declared.events.Shown.TheVariants.{Estimated, Unexplained, Holding}
use Rattle.cca_base.specs.declared.state.World.{World}
use Rattle.cca_base.specs.Accepted.{CompiledModel, IsCompiled}
use Rattle.cca_base.specs.Goals.{IsFirstUnreached}
use Rattle.cca_base.specs.Orders.{IsSorted}
use Rattle.cca_base.specs.Plans.{Promising, Whole, ShowsPlan, IsRoute}
use Rattle.cca_base.specs.Runs.{is_send}
use Rattle.cca_base.specs.State.{Extends}
use Rattle.cca_base.specs.Steps.{Step, Run}
use Rattle.cca_base.specs.Trace.{ExecutiveState, IsReply, TickShows}
use Rattle.cca_base.proofs.SortedGoals.{held_plain, held_sorted}
use Rattle.cca_laws.proofs.OneOrder.{compiled_none_twice}
use Rattle.cca_laws.proofs.OnePick.{one_command}
use Rattle.cca_laws.proofs.PlanLaws.{whole_runs, whole_stands}
use Rattle.check_laws.proofs.CheckedPlans.{one_end}
use Rattle.plan_checker.specs.Checked.{Takes}
use Rattle.plan_checker.specs.Reasons.{Printed, OnEstimate, OnCommand, OnCommands, HasItsLines, HasItsCost, HasItsWorld, ExplainsTick, SendsStep, PrintsPlan, ReachesGoal, LeadsBack, AnswersGoal, FitsGoal, IsPlanFrom, IsWayBack, WritesRoute, IsVerdict}
use Rattle.plan_checker.specs.declared.verdict.Verdict.TheVariants.{Yes}
use Rattle.check_form.specs.CheckTrace.{SeesPairs}
use Rattle.run_form.specs.TickProofs.{IsSeenWorld, ProvesEstimate, ProvesReply, ProvesCommand, IsProven}

-- where a checker stands: as the executive, with the goal as it was given
abbrev pub with_goal : ExecutiveState → Option (List Pair) → ExecutiveState
with_goal x given = record x { goal = given }

-- the goal that is kept is the given one in order
abbrev pub IsGoalOf : List ℕ → Option (List Pair) → Option (List Pair) → Type 0
IsGoalOf order None None = Unit {0}
IsGoalOf order None (Some kept) = ⊥
IsGoalOf order (Some given) None = ⊥
IsGoalOf order (Some given) (Some kept) = IsSorted order given kept

module _ (b : CompiledModel) (compiled : IsCompiled b) where
  -- ---- a reply

  -- the tests of a reply, with the route that is printed
  record ReplyPasses (given : Option (List Pair)) (s : List ℕ) (reply : Reply) (route : Option Route) : Type 0 where
    has_route : is_some route ≡ is_send (Some reply)
    step : OnCommand reply (λ k. (next : List ℕ) × Step b.model s k next)
    plan : OnCommand reply (λ k. IfSome route (λ r. OnCommands r.plan (IsPlanFrom b.model s k)))
    goal : OnCommand reply (λ k. IfSome route (λ r. OnCommands r.plan (λ ks. (there : List ℕ) → Run b.model s ks there → IfSome given (Extends there))))
    back : OnCommand reply (λ k. IfSome route (λ r. OnCommands r.plan (λ ks. OnCommands r.back (IsWayBack b.model s ks))))
    answer : FitsGoal s given reply

  idle_passes : (s : List ℕ) (route : Option Route) → route ≡ None → ReplyPasses None s Idle route
  idle_passes s route none = record { has_route = ap is_some none; step = tt; plan = tt; goal = tt; back = tt; answer = refl }

  module _ (s : List ℕ) (given goal : List Pair) (sorted : IsSorted b.order given goal) where
    achieved_passes : (route : Option Route) → Extends s goal → route ≡ None → ReplyPasses (Some given) s Achieved route
    achieved_passes route stands none = record { has_route = ap is_some none; step = tt; plan = tt; goal = tt; back = tt; answer = held_plain b.order s given goal sorted stands }

    unreachable_passes : (c mode : ℕ) (route : Option Route) → IsFirstUnreached b.model s goal (record { item = c; value = mode }) → route ≡ None → ReplyPasses (Some given) s (Unreachable c mode) route
    unreachable_passes c mode route h none =
        let p : Pair = record { item = c; value = mode } in
        let among : Contains goal p = subst (λ (l : List Pair). Contains l p) (sym h.split) (Contains-append_right h.before (p ∷ h.after) p (contains_here p p h.after refl)) in
        record {
          has_route = ap is_some none;
          step = tt;
          plan = tt;
          goal = tt;
          back = tt;
          answer = (Contains-permutation goal given p (IsPermutation-sym given goal sorted.same) among, λ stands. h.unreached ([], s, refl, stands));
        }

    module _ (k : ℕ) (promise : Promising b s goal (Send k)) where
      -- some pair of the goal is missing
      not_there : Extends s goal → ⊥
      not_there h = let needed = promise.chosen.good.0 in needed.missing (All-contains (λ (p : Pair). slice_get s p.item ≡ Some p.value) goal needed.pair h needed.wanted)

      -- the whole plan begins with the command
      plan_begins : (ks last : List ℕ) → Whole b goal s ks last → (others : List ℕ) × (ks ≡ k ∷ others)
      plan_begins [] last h = absurd (not_there h.0)
      plan_begins (x ∷ ks) last (short, picks, next, step, rest) =
          let same : x ≡ k = one_command b s (compiled_none_twice b compiled) goal x k picks (promise.chosen.picked k refl) in
          (ks, λ i. same i ∷ ks)

      plan_passes : (p : PlanEnd) (plan there : List ℕ) → Whole b goal s plan there → ShowsPlan p plan → OnCommands p (IsPlanFrom b.model s k)
      plan_passes (Plan ks) plan there whole shows =
          subst (λ (l : List ℕ). IsPlanFrom b.model s k l) (sym shows.0) (plan_begins plan there whole, (there, whole_runs b goal plan s there whole))
      plan_passes Long plan there whole shows = tt

      goal_passes : (p : PlanEnd) (plan there : List ℕ) → Whole b goal s plan there → ShowsPlan p plan → OnCommands p (λ ks. (end : List ℕ) → Run b.model s ks end → Extends end given)
      goal_passes (Plan ks) plan there whole shows = λ end run.
          let own : Run b.model s ks there = subst (λ (l : List ℕ). Run b.model s l there) (sym shows.0) (whole_runs b goal plan s there whole) in
          let same : there ≡ end = one_end b.model compiled.accepted.well_formed.commands s there end ks own run in
          subst (λ (z : List ℕ). Extends z given) same (held_plain b.order there given goal sorted (whole_stands b goal plan s there whole))
      goal_passes Long plan there whole shows = tt

      send_passes : (r : Route) → IsRoute b s goal r → OnCommands r.plan (λ ks. OnCommands r.back (IsWayBack b.model s ks)) → ReplyPasses (Some given) s (Send k) (Some r)
      send_passes r route home = record {
        has_route = refl;
        step = (promise.chosen.good.0.next, promise.chosen.good.0.step);
        plan = plan_passes r.plan route.plan route.there route.whole route.shows_plan;
        goal = goal_passes r.plan route.plan route.there route.whole route.shows_plan;
        back = home;
        answer = λ stands. not_there (held_sorted b.order s given goal sorted stands);
      }

    -- each reply that is proven passes
    goal_reply_passes : (reply : Reply) (route : Option Route) → Promising b s goal reply → ProvesReply b s (Some goal) reply route → ReplyPasses (Some given) s reply route
    goal_reply_passes Idle route promise proves = absurd promise.chosen.good
    goal_reply_passes Achieved route promise proves = achieved_passes route promise.chosen.good proves
    goal_reply_passes (Unreachable c mode) route promise proves = unreachable_passes c mode route promise.chosen.good proves
    goal_reply_passes (Send k) None promise proves = absurd proves
    goal_reply_passes (Send k) (Some r) promise (pairs, is, route, home) =
        send_passes k promise r (subst (λ (l : List Pair). IsRoute b s l r) (sym (same_Some goal pairs is)) route) home

  reply_passes : (given kept : Option (List Pair)) (s : List ℕ) (reply : Reply) (route : Option Route) → IsGoalOf b.order given kept → IsReply (Promising b) s kept reply → ProvesReply b s kept reply route → ReplyPasses given s reply route
  reply_passes None None s reply route goals is proves =
      subst (λ (r : Reply). ProvesReply b s None r route → ReplyPasses None s r route) (sym is) (idle_passes s route) proves
  reply_passes None (Some goal) s reply route goals is proves = absurd goals
  reply_passes (Some given) None s reply route goals is proves = absurd goals
  reply_passes (Some given) (Some goal) s reply route goals is proves = goal_reply_passes s given goal goals reply route is proves

  -- ---- a tick

  abbrev tick_of : ℕ → Shown → Option World → Option Route → Printed
  tick_of n shown world route = record { report = record { tick = n; shown = shown }; world = world; route = route }

  all_pass : (x : ExecutiveState) (t : Printed) → HasItsLines x t → HasItsCost b.model x t → HasItsWorld b.model x t → SendsStep b.model t → PrintsPlan b.model t → ReachesGoal b.model x t → LeadsBack b.model t
      → AnswersGoal x t.report.shown → WritesRoute t → IsVerdict b.model x t Yes
  all_pass x t line cost world step plan goal back answer written = λ reason. record {
    line = λ e. line;
    cost = λ e. cost;
    world = λ e. world;
    step = λ e. step;
    plan = λ e. plan;
    goal = λ e. goal;
    back = λ e. back;
    answer = λ e. answer;
    written = λ e. written;
  }

  -- what is seen is what is observed
  world_passes : (x : ExecutiveState) (given : Option (List Pair)) (s : List ℕ) (w : World) → IsSeenWorld b x s w → ExplainsTick b.model (with_goal x given) s w.values
  world_passes x given s w (seen, observed, first) = record {
    world = first.world;
    agrees = λ p sees. All-contains (λ (q : Pair). slice_get w.values q.item ≡ Some q.value) seen p first.agrees ((observed.each p).1 sees.1);
  }

  module _ (x y : ExecutiveState) (given : Option (List Pair)) (goals : IsGoalOf b.order given x.goal) (n : ℕ) (number : n ≡ x.ticks + 1) where
    shown_passes : (shown : Shown) (world : Option World) (route : Option Route) → TickShows b.model (Promising b) x shown y → ProvesEstimate b x shown world → ProvesCommand b x shown route → WritesRoute (tick_of n shown world route)
        → IsVerdict b.model (with_goal x given) (tick_of n shown world route) Yes
    shown_passes (Estimated cost state reply) None route shows estimate command written = absurd estimate
    shown_passes (Estimated cost state reply) (Some w) route shows estimate command written =
        let r = reply_passes given x.goal state.modes reply route goals shows.replies command in
        all_pass (with_goal x given) (tick_of n (Estimated cost state reply) (Some w) route)
        (record { number = number; world = refl; route = r.has_route })
        shows.estimate.consistent.costs (world_passes x given state.modes w estimate) r.step r.plan r.goal r.back (shows.going, r.answer) written
    shown_passes Unexplained world route shows estimate command written =
        all_pass (with_goal x given) (tick_of n Unexplained world route) (record { number = number; world = ap is_some estimate; route = ap is_some command }) tt tt tt tt tt tt shows.going written
    shown_passes Holding world route shows estimate command written =
        all_pass (with_goal x given) (tick_of n Holding world route) (record { number = number; world = ap is_some estimate; route = ap is_some command }) tt tt tt tt tt tt shows.0 written

  -- a tick that is proven gets a Yes, where its plan and way back are written out
  pub proven_passes : (x y : ExecutiveState) (given : Option (List Pair)) (t : Printed) → IsGoalOf b.order given x.goal → t.report.tick ≡ x.ticks + 1 → TickShows b.model (Promising b) x t.report.shown y → IsProven b x t → WritesRoute t
      → IsVerdict b.model (with_goal x given) t Yes
  proven_passes x y given t goals number shows proven written =
      shown_passes x y given goals t.report.tick number t.report.shown t.world t.route shows proven.estimate proven.command written

  -- what the tick shows is taken
  pub proven_takes : (x y : ExecutiveState) (given : Option (List Pair)) (shown : Shown) → (IsTrue x.holding → x.command ≡ None) → TickShows b.model (Promising b) x shown y → Takes b.model (with_goal x given) shown (with_goal y given)
  proven_takes x y given (Estimated cost state reply) silent shows = record { plant = shows.plant; moves = shows.moves; after = ap (λ (z : ExecutiveState). with_goal z given) shows.after }
  proven_takes x y given Unexplained silent shows = ap (λ (z : ExecutiveState). with_goal z given) shows.after
  proven_takes x y given Holding silent shows =
      ap (λ (z : ExecutiveState). with_goal z given) shows.1 ∙ (λ i. record x { goal = given; command = silent shows.0 i; pending = []; ticks = x.ticks + 1 })

  -- what the tick observes is some list of pairs
  pub proven_sees : (x y : ExecutiveState) (given : Option (List Pair)) (shown : Shown) → TickShows b.model (Promising b) x shown y → OnEstimate shown (λ cost s reply. SeesPairs b.model (with_goal x given))
  proven_sees x y given (Estimated cost state reply) shows = (shows.seen, shows.observed)
  proven_sees x y given Unexplained shows = tt
  proven_sees x y given Holding shows = tt

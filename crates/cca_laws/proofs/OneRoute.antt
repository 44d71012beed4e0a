-- A state and a goal have one route: one whole plan, one way back from its end, and one way to show them.
use Rattle.std.proofs.Common.{◌≡◌, ℕ, List, [], ◌∷◌, sym, ap, subst, ◌∙◌, arith}
use Rattle.cca_base.specs.declared.cube.Pair.{Pair}
use Rattle.cca_base.specs.declared.events.PlanEnd.{PlanEnd}
use Rattle.cca_base.specs.declared.events.PlanEnd.TheVariants.{Plan, Long}
use Rattle.cca_base.specs.declared.events.Route.{Route}
use Rattle.cca_base.specs.Accepted.{CompiledModel, IsCompiled}
use Rattle.cca_base.specs.Plans.{Whole, IsBackGoal, Back, ShowsPlan, ShowsBack, IsRoute}
use Rattle.cca_base.specs.Steps.{Step}
use Rattle.cca_laws.proofs.OneOrder.{ordered_same, compiled_none_twice}
use Rattle.cca_laws.proofs.OnePick.{one_command}
use Rattle.cca_base.proofs.Commands.{one_step}

module _ (b : CompiledModel) (compiled : IsCompiled b) where
  -- the picked commands, and where they lead, are one
  whole_once : (goal : List Pair) (ks ls s t u : List ℕ) → Whole b goal s ks t → Whole b goal s ls u → (ks ≡ ls) × (t ≡ u)
  whole_once goal [] [] s t u h k = ((λ i. []), h.1 ∙ sym k.1)
  whole_once goal [] (l ∷ ls) s t u h k = absurd (k.0 h.0)
  whole_once goal (x ∷ ks) [] s t u h k = absurd (h.0 k.0)
  whole_once goal (x ∷ ks) (l ∷ ls) s t u (short, picks, next, step, rest) (still, others, after, other, more) =
      let same : x ≡ l = one_command b s (compiled_none_twice b compiled) goal x l picks others in
      let there : next ≡ after = (one_step b.model compiled.accepted.well_formed.commands s next after l (subst (λ z. Step b.model s z next) same step) other).1 in
      let on = whole_once goal ks ls after t u (subst (λ z. Whole b goal z ks t) there rest) more in
      ((λ i. same i ∷ on.0 i), on.1)

  -- where to go back to is one goal
  back_goal_once : (s : List ℕ) (a c : List Pair) → IsBackGoal b s a → IsBackGoal b s c → a ≡ c
  back_goal_once s a c h k = ordered_same b.order a c (compiled_none_twice b compiled) h.in_order k.in_order (λ p among. (k.each p).1 ((h.each p).0 among), λ p among. (h.each p).1 ((k.each p).0 among))

  back_once : (from s ks ls t u : List ℕ) → Back b from s ks t → Back b from s ls u → ks ≡ ls
  back_once from s ks ls t u h k =
      let same : h.goal ≡ k.goal = back_goal_once s h.goal k.goal h.is_goal k.is_goal in
      (whole_once k.goal ks ls from t u (subst (λ g. Whole b g from ks t) same h.whole) k.whole).0

-- a list is shown in one way
shown_once : (a c : PlanEnd) (ks : List ℕ) → ShowsPlan a ks → ShowsPlan c ks → a ≡ c
shown_once (Plan x) (Plan y) ks h k = ap (λ z. Plan z) (h.0 ∙ sym k.0)
shown_once (Plan x) Long ks h k = absurd (omega (arith, h.1, k))
shown_once Long (Plan y) ks h k = absurd (omega (arith, k.1, h))
shown_once Long Long ks h k = λ i. Long

shown_back_once : (plan a c : PlanEnd) (ks : List ℕ) → ShowsBack plan a ks → ShowsBack plan c ks → a ≡ c
shown_back_once (Plan x) a c ks h k = shown_once a c ks h k
shown_back_once Long a c ks h k = h ∙ sym k

-- the route of a state and a goal is one
pub one_route : (b : CompiledModel) (s : List ℕ) (goal : List Pair) (r q : Route) → IsRoute b s goal r → IsRoute b s goal q → r ≡ q
one_route b s goal r q h k =
    let plans = whole_once b h.compiled goal h.plan k.plan s h.there k.there h.whole k.whole in
    let plan : r.plan ≡ q.plan = shown_once r.plan q.plan k.plan (subst (ShowsPlan r.plan) plans.0 h.shows_plan) k.shows_plan in
    let from : Back b k.there s h.back h.last = subst (λ z. Back b z s h.back h.last) plans.1 h.way_back in
    let backs : h.back ≡ k.back = back_once b h.compiled k.there s h.back k.back h.last k.last from k.way_back in
    let back : r.back ≡ q.back = shown_back_once q.plan r.back q.back k.back (subst (λ z. ShowsBack z r.back k.back) plan (subst (ShowsBack r.plan r.back) backs h.shows_back)) k.shows_back in
    λ i. record { plan = plan i; back = back i }

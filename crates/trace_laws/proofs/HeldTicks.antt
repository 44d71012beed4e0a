-- A lamp that is to be lit, where the goal is set anew before each tick.
use Rattle.std.proofs.Common.{◌≡◌, ◌<◌, ◌≤◌, ℕ, zero, suc, false, List, [], ◌∷◌, None, Some, All, slice_get, refl, sym, ap, subst, arith}
use Rattle.std.proofs.lemmas.Bool.{false≢true}
use Rattle.std.proofs.lemmas.List.Elements.{All-cons, All-head, All-nil, All-tail}
use Rattle.std.proofs.lemmas.Option.{same_Some}
use Rattle.cca_base.specs.declared.cube.Pair.{Pair}
use Rattle.cca_base.specs.declared.events.Event.{Event}
use Rattle.cca_base.specs.declared.events.Event.TheVariants as event
use Rattle.cca_base.specs.declared.events.Reply.{Reply}
use Rattle.cca_base.specs.declared.events.Reply.TheVariants.{Send, Achieved, Unreachable}
use Rattle.cca_base.specs.Runs.{TickRecord, IsRight, IsStretch, LeavesPlantAlone, LeavesPlantAndGoalAlone, reply_at, is_send, is_unreachable}
use Rattle.cca_laws.specs.Examples.{lit}
use Rattle.list_laws.proofs.Few.{one_at, two_at}
use Rattle.trace_laws.specs.Examples.{sent_on}
use Rattle.trace_laws.specs.Held.{IsHeldStretch}
use Rattle.trace_laws.specs.HeldExamples.{HeldIsExcused, HeldIsLost, HeldIsServed, HeldSentTwice, IsNoneHeld, asked_again, held_ticks, other_goal, wrong_estimate}
use Rattle.trace_laws.proofs.LampTicks.{lost, not_achieved}

-- a goal that is set leaves the plant alone
goal_alone : All LeavesPlantAlone (event.Goal lit ∷ [])
goal_alone = All-cons LeavesPlantAlone (event.Goal lit) [] tt (All-nil LeavesPlantAlone)

-- two right ticks before which the goal is set
two_held : (mode : ℕ) (reply : Reply) → IsHeldStretch (sent_on ∷ asked_again 1 (Some 0) mode reply ∷ []) lit 0 1
two_held mode reply = record {
  rising = omega arith;
  within = omega arith;
  goals = two_at (λ t. t.before.goal ≡ Some lit) sent_on (asked_again 1 (Some 0) mode reply) refl refl;
  quiet = one_at (λ t. All LeavesPlantAlone t.since) (asked_again 1 (Some 0) mode reply) goal_alone;
  right = two_at IsRight sent_on (asked_again 1 (Some 0) mode reply) refl refl;
  reachable = λ t e. subst (λ (u : TickRecord). is_unreachable (reply_at u) ≡ false) (same_Some sent_on t e) refl;
}

held_stays : (first later : ℕ) (t u : TickRecord) → 0 ≤ first → first < later → later ≤ 1 → slice_get held_ticks first ≡ Some t → slice_get held_ticks later ≡ Some u → reply_at t ≡ Some Achieved → is_send (reply_at u) ≡ false
held_stays first zero t u low before high at there is = absurd (omega (arith, before))
held_stays first (suc zero) t u low before high at there is = ap (λ (v : TickRecord). is_send (reply_at v)) (sym (same_Some (asked_again 1 (Some 0) 1 Achieved) u there))
held_stays first (suc (suc later)) t u low before high at there is = absurd (omega (arith, high))

held_stands : (late : ℕ) (t : TickRecord) → 1 ≤ late → late ≤ 1 → slice_get held_ticks late ≡ Some t → reply_at t ≡ Some Achieved
held_stands zero t low high at = absurd (omega (arith, low))
held_stands (suc zero) t low high at = ap reply_at (sym (same_Some (asked_again 1 (Some 0) 1 Achieved) t at))
held_stands (suc (suc late)) t low high at = absurd (omega (arith, high))

-- a goal event between two ticks ends a stretch without a new goal
no_stretch : IsStretch held_ticks lit 0 1 → ⊥
no_stretch h = All-head LeavesPlantAndGoalAlone (event.Goal lit) [] (All-head (λ t. All LeavesPlantAndGoalAlone t.since) (asked_again 1 (Some 0) 1 Achieved) [] h.quiet)

pub held_is_served : HeldIsServed
held_is_served = (
  no_stretch,
  two_held 1 Achieved,
  record {
    reached = two_at (λ t. is_unreachable (reply_at t) ≡ false) sent_on (asked_again 1 (Some 0) 1 Achieved) refl refl;
    few = omega arith;
    stays = held_stays;
    stands = held_stands;
  },
)

pub held_sent_twice : HeldSentTwice
held_sent_twice h = not_achieved 1 ((h lit 0 1 (two_held 1 (Send 1))).stands 1 (asked_again 1 (Some 0) 1 (Send 1)) (omega arith) (omega arith) refl)

pub held_is_lost : HeldIsLost
held_is_lost h = lost 0 1 ((h lit 0 1 (two_held 1 (Unreachable 0 1))).stands 1 (asked_again 1 (Some 0) 1 (Unreachable 0 1)) (omega arith) (omega arith) refl)

-- behind an event that moves the plant no goal is held
disturbed : (t : TickRecord) (e : Event) (events : List Event) → (LeavesPlantAlone e → ⊥) → t.since ≡ e ∷ events → IsNoneHeld t
disturbed t e events loud is h =
    loud (All-head LeavesPlantAlone e events (subst (All LeavesPlantAlone) is (All-head (λ v. All LeavesPlantAlone v.since) t [] h.quiet)))

-- what holds of both ticks holds of the second
second : (P : TickRecord → Type 0) (t u : TickRecord) → All P (t ∷ u ∷ []) → P u
second P t u h = All-head P u [] (All-tail P t (u ∷ []) h)

-- the mode of the first pair
abbrev first_mode : List Pair → ℕ
first_mode [] = 0
first_mode (p ∷ pairs) = p.value

other_is_not : record { item = 0; value = 0 } ∷ [] ≡ lit → ⊥
other_is_not e = let never : 0 ≡ 1 = ap first_mode e in absurd (omega (arith, never))

pub held_is_excused : HeldIsExcused
held_is_excused = record {
  other = λ h. other_is_not (same_Some _ _ (second (λ t. t.before.goal ≡ Some lit) sent_on other_goal h.goals));
  fault = disturbed _ (event.Fault (record { item = 0; value = 0 })) (event.Goal lit ∷ []) (λ z. z) refl;
  reset = disturbed _ event.Reset (event.Goal lit ∷ []) (λ z. z) refl;
  wrong = λ h. let never : (1 ∷ []) ≡ (0 ∷ []) = second IsRight sent_on wrong_estimate h.right in absurd cc;
  unreachable = λ h. false≢true (sym (h.reachable (asked_again 0 None 0 (Unreachable 0 1)) refl));
}

-- A lamp that is to be lit.
use Rattle.std.proofs.Common.{◌≡◌, ◌<◌, ◌≤◌, ℕ, zero, suc, true, false, List, [], ◌∷◌, Option, None, Some, All, Contains, slice_get, inl, inr, refl, sym, ap, subst, ◌∙◌, arith}
use Rattle.std.proofs.lemmas.Bool.{false≢true, true≢false}
use Rattle.std.proofs.lemmas.List.Elements.{All-head, All-nil}
use Rattle.cca_base.specs.declared.cube.Pair.{Pair}
use Rattle.cca_base.specs.declared.events.Event.{Event}
use Rattle.cca_base.specs.declared.events.Event.TheVariants as event
use Rattle.cca_base.specs.declared.events.Reply.{Reply}
use Rattle.cca_base.specs.declared.events.Reply.TheVariants.{Send, Achieved, Unreachable}
use Rattle.cca_base.specs.Sets.{has}
use Rattle.cca_base.specs.State.{IsWorld}
use Rattle.cca_base.specs.Trace.{Observed}
use Rattle.cca_base.specs.Runs.{TickRecord, IsStretch, IsRight, LeavesPlantAlone, LeavesPlantAndGoalAlone, ComesAfterRight, CanBeSeen, reply_at, is_send, is_unreachable}
use Rattle.cca_base.proofs.SetLaws.{has-empty}
use Rattle.std.proofs.lemmas.Option.{same_Some}
use Rattle.list_laws.proofs.Members.{contains_none}
use Rattle.cca_laws.specs.Examples.{lamp, lit}
use Rattle.list_laws.proofs.Few.{one_at, two_at}
use Rattle.trace_laws.specs.Examples.{lit_record, sent_on, lit_ticks, LitIsServed, SentTwiceIsNotServed, LostIsNotServed, SentAgainIsNotServed, OthersAreExcused, SilentIsNotRight, silent, dear}

-- two right ticks of the goal, with nothing between them, of which the first does not say unreachable
two_ticks : (a b : ℕ) (since : List Event) (k l : Option ℕ) (m n : ℕ) (reply other : Reply) → is_unreachable (Some reply) ≡ false → IsStretch (lit_record a since k m reply ∷ lit_record b [] l n other ∷ []) lit 0 1
two_ticks a b since k l m n reply other able = record {
  rising = omega arith;
  within = omega arith;
  goals = two_at (λ t. t.before.goal ≡ Some lit) (lit_record a since k m reply) (lit_record b [] l n other) refl refl;
  quiet = one_at (λ t. All LeavesPlantAndGoalAlone t.since) (lit_record b [] l n other) (All-nil LeavesPlantAndGoalAlone);
  right = two_at IsRight (lit_record a since k m reply) (lit_record b [] l n other) refl refl;
  reachable = λ t e. subst (λ (u : TickRecord). is_unreachable (reply_at u) ≡ false) (same_Some (lit_record a since k m reply) t e) able;
}

lit_stays : (first later : ℕ) (t u : TickRecord) → 0 ≤ first → first < later → later ≤ 1 → slice_get lit_ticks first ≡ Some t → slice_get lit_ticks later ≡ Some u → reply_at t ≡ Some Achieved → is_send (reply_at u) ≡ false
lit_stays first zero t u low before high at there is = absurd (omega (arith, before))
lit_stays first (suc zero) t u low before high at there is = ap (λ (v : TickRecord). is_send (reply_at v)) (sym (same_Some (lit_record 1 [] (Some 0) 1 Achieved) u there))
lit_stays first (suc (suc later)) t u low before high at there is = absurd (omega (arith, high))

lit_stands : (late : ℕ) (t : TickRecord) → 1 ≤ late → late ≤ 1 → slice_get lit_ticks late ≡ Some t → reply_at t ≡ Some Achieved
lit_stands zero t low high at = absurd (omega (arith, low))
lit_stands (suc zero) t low high at = ap reply_at (sym (same_Some (lit_record 1 [] (Some 0) 1 Achieved) t at))
lit_stands (suc (suc late)) t low high at = absurd (omega (arith, high))

pub lit_is_served : LitIsServed
lit_is_served = (
  two_ticks 0 1 (event.Goal lit ∷ []) None (Some 0) 0 1 (Send 0) Achieved refl,
  record {
    reached = two_at (λ t. is_unreachable (reply_at t) ≡ false) sent_on (lit_record 1 [] (Some 0) 1 Achieved) refl refl;
    few = omega arith;
    stays = lit_stays;
    stands = lit_stands;
  },
)

pub not_achieved : (k : ℕ) → ◌≡◌ {A = Option Reply} (Some (Send k)) (Some Achieved) → ⊥
not_achieved k e = absurd cc

pub lost : (c mode : ℕ) → ◌≡◌ {A = Option Reply} (Some (Unreachable c mode)) (Some Achieved) → ⊥
lost c mode e = absurd cc

pub sent_twice : SentTwiceIsNotServed
sent_twice h = not_achieved 1 ((h lit 0 1 (two_ticks 0 1 (event.Goal lit ∷ []) None (Some 0) 0 1 (Send 0) (Send 1) refl)).stands 1 (lit_record 1 [] (Some 0) 1 (Send 1)) (omega arith) (omega arith) refl)

pub lost_is_not : LostIsNotServed
lost_is_not h = lost 0 1 ((h lit 0 1 (two_ticks 0 1 (event.Goal lit ∷ []) None (Some 0) 0 1 (Send 0) (Unreachable 0 1) refl)).stands 1 (lit_record 1 [] (Some 0) 1 (Unreachable 0 1)) (omega arith) (omega arith) refl)

pub sent_again : SentAgainIsNotServed
sent_again h =
    true≢false
    ((h lit 0 1 (two_ticks 0 1 (event.Goal lit ∷ []) None None 1 1 Achieved (Send 1) refl)).stays 0 1 (lit_record 0 (event.Goal lit ∷ []) None 1 Achieved) (lit_record 1 [] None 1 (Send 1)) (omega arith) (omega arith) (omega arith) refl refl refl)

-- an event between two ticks that is not quiet
disturbed : (t u : TickRecord) (e : Event) → (LeavesPlantAndGoalAlone e → ⊥) → u.since ≡ e ∷ [] → IsStretch (t ∷ u ∷ []) lit 0 1 → ⊥
disturbed t u e loud is h =
    loud (All-head LeavesPlantAndGoalAlone e [] (subst (All LeavesPlantAndGoalAlone) is (All-head (λ v. All LeavesPlantAndGoalAlone v.since) u [] h.quiet)))

pub others_excused : OthersAreExcused
others_excused = (
  λ h. true≢false (h.reachable (lit_record 0 (event.Goal lit ∷ []) None 0 (Unreachable 0 1)) refl),
  λ h. disturbed sent_on (lit_record 1 (event.Goal lit ∷ []) (Some 0) 1 (Send 1)) (event.Goal lit) (λ z. z) refl h,
  λ h. disturbed sent_on (lit_record 1 (event.Fault (record { item = 0; value = 0 }) ∷ []) (Some 0) 0 (Send 0)) (event.Fault (record { item = 0; value = 0 })) (λ z. z) refl h,
)

nothing_seen : (x : TickRecord) → x.before.pending ≡ [] → x.before.mirrored ≡ 0 → Observed lamp x.before []
nothing_seen x e f = record {
  rising = λ i j d before within. absurd (omega arith);
  each = λ p. (
    λ among. absurd (contains_none p among),
    λ either. elim either [
      | inl pending ↦ absurd (contains_none p (subst (λ (l : List Pair). Contains l p) e pending))
      | inr (seen, one) ↦ absurd (false≢true (sym (has-empty p.item) ∙ subst (λ (set : ℕ). has set p.item ≡ true) f seen))
    ],
  );
}

empty_world : (t : List ℕ) → IsWorld lamp t []
empty_world t = record { full = refl; values = λ v within. absurd (omega arith); rules = λ k d within. absurd (omega arith) }

can_be_seen : (x : TickRecord) → x.before.pending ≡ [] → x.before.mirrored ≡ 0 → CanBeSeen lamp x
can_be_seen x e f = ([], [], nothing_seen x e f, empty_world x.before.plant, All-nil (λ p. slice_get [] p.item ≡ Some p.value))

after_sent : (u : TickRecord) → u.since ≡ [] → ComesAfterRight (sent_on ∷ u ∷ []) 1 u.since
after_sent u e = (0, sent_on, refl, refl, refl, subst (All LeavesPlantAlone) (sym e) (All-nil LeavesPlantAlone))

three : ◌≡◌ {A = ℕ} 3 0 → ⊥
three e = absurd (omega (arith, e))

pub silent_is_not : SilentIsNotRight
silent_is_not = (
  λ h. (h 1 silent refl (inr (after_sent silent refl)) (can_be_seen silent refl refl)).0,
  λ h. three (h 1 dear refl (inr (after_sent dear refl)) (can_be_seen dear refl refl)).1,
)

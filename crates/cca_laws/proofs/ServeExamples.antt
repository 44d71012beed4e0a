-- Served and unserved goals.
use Rattle.std.proofs.Common.{◌≡◌, ◌<◌, ◌≤◌, ◌+◌, ℕ, zero, suc, false, List, [], ◌∷◌, All, Some, refl, sym, ap, ◌∙◌, arith}
use Rattle.std.specs.Prelude.{slice_get}
use Rattle.std.proofs.lemmas.Bool.{false≢true}
use Rattle.std.proofs.lemmas.List.Elements.{All-nil}
use Rattle.std.proofs.lemmas.Option.{same_Some}
use Rattle.cca_base.specs.declared.events.Reply.TheVariants.{Idle, Send, Achieved, Unreachable}
use Rattle.cca_base.specs.Runs.{TickRecord, IsStretch, IsRight, LeavesPlantAndGoalAlone, reply_at, is_send, is_unreachable}
use Rattle.cca_laws.specs.Examples.{lit}
use Rattle.list_laws.proofs.Few.{two_at, one_at}
use Rattle.cca_laws.specs.ServeExamples.{replied, OneOfOne, TwoOfOne, TooLate, NoneAfter, NotLost, LampIsPromised, LostBeginsNone}

abbrev served : List TickRecord
served = replied (Send 0) ∷ replied Achieved ∷ []

second : (t : TickRecord) → slice_get served 1 ≡ Some t → replied Achieved ≡ t
second t e = same_Some (replied Achieved) t e

stays : (first later : ℕ) (t u : TickRecord) → 0 ≤ first → first < later → later ≤ 1 → slice_get served first ≡ Some t → slice_get served later ≡ Some u
    → reply_at t ≡ Some Achieved → is_send (reply_at u) ≡ false
stays first zero t u a b c d e f = absurd (omega arith)
stays first (suc zero) t u a b c d e f = ap (λ (x : TickRecord). is_send (reply_at x)) (sym (second u e))
stays first (suc (suc k)) t u a b c d e f = absurd (omega arith)

stands : (late : ℕ) (t : TickRecord) → 0 + 1 ≤ late → late ≤ 1 → slice_get served late ≡ Some t → reply_at t ≡ Some Achieved
stands zero t a b e = absurd (omega arith)
stands (suc zero) t a b e = ap (λ (x : TickRecord). reply_at x) (sym (second t e))
stands (suc (suc k)) t a b e = absurd (omega arith)

pub one_of_one : OneOfOne
one_of_one = record {
  reached = two_at (λ t. is_unreachable (reply_at t) ≡ false) (replied (Send 0)) (replied Achieved) refl refl;
  few = omega arith;
  stays = stays;
  stands = stands;
}

pub two_of_one : TwoOfOne
two_of_one h = absurd (omega (arith, h.few))

idle_is_not : Some Idle ≡ Some Achieved → ⊥
idle_is_not e = absurd cc

pub too_late : TooLate
too_late h = idle_is_not (h.stands 1 (replied Idle) (omega arith) (omega arith) refl)

pub none_after : NoneAfter
none_after number h = false≢true (sym (h.stays 0 1 (replied Achieved) (replied (Send 0)) (omega arith) (omega arith) (omega arith) refl refl refl))

pub not_lost : NotLost
not_lost number h = false≢true (sym (h.reached 1 (replied Idle) (omega arith)))

pub lost_begins_none : LostBeginsNone
lost_begins_none j h = false≢true (sym (h.reachable (replied (Unreachable 0 1)) refl))

abbrev sending : List TickRecord
sending = replied (Send 0) ∷ replied (Send 1) ∷ []

-- what does not say unreachable may begin a stretch
pub may_begin : (x : TickRecord) (ticks : List TickRecord) → is_unreachable (reply_at x) ≡ false
    → (t : TickRecord) → slice_get (x ∷ ticks) 0 ≡ Some t → is_unreachable (reply_at t) ≡ false
may_begin x ticks h t e = ap (λ (y : TickRecord). is_unreachable (reply_at y)) (sym (same_Some x t e)) ∙ h

is_stretch : IsStretch sending lit 0 1
is_stretch = record {
  rising = omega arith;
  within = omega arith;
  goals = two_at (λ t. t.before.goal ≡ Some lit) (replied (Send 0)) (replied (Send 1)) refl refl;
  quiet = one_at (λ t. All LeavesPlantAndGoalAlone t.since) (replied (Send 1)) (All-nil LeavesPlantAndGoalAlone);
  right = two_at IsRight (replied (Send 0)) (replied (Send 1)) refl refl;
  reachable = may_begin (replied (Send 0)) (replied (Send 1) ∷ []) refl;
}

pub lamp_is_promised : LampIsPromised
lamp_is_promised h = two_of_one (h lit 0 1 is_stretch)

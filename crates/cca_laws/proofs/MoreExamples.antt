-- What stays right, and which events may come.
use Rattle.std.proofs.Common.{inr, List, [], refl, sym, ap, subst, arith}
use Rattle.std.specs.Prelude.{Contains}
use Rattle.std.proofs.lemmas.Bool.{false≢true}
use Rattle.list_laws.proofs.Members.{contains_here}
use Rattle.cca_base.specs.declared.cube.Pair.{Pair}
use Rattle.cca_base.specs.declared.events.Event.TheVariants as event
use Rattle.cca_base.specs.Cube.{Lacks}
use Rattle.cca_base.specs.Trace.{ExecutiveState}
use Rattle.cca_base.specs.Runs.{LeavesPlantAlone}
use Rattle.list_laws.proofs.Few.{one_at}
use Rattle.cca_laws.proofs.RightExamples.{can_be_seen, wrong}
use Rattle.cca_laws.specs.ObservedExamples.{x_low}
use Rattle.cca_laws.specs.RightExamples.{no_flow, wrong_moment}
use Rattle.cca_laws.specs.MoreExamples.{right_moment, WrongAfterRight, BrokenIsNoGoal, MirroredIsNotObserved, OnceBeforeTick}

pub wrong_after_right : WrongAfterRight
wrong_after_right ways order bounds h =
    wrong (h 1 wrong_moment refl (inr (0, right_moment, refl, refl, refl, one_at LeavesPlantAlone (event.Observe no_flow) tt)) can_be_seen).0

pub broken_is_no_goal : BrokenIsNoGoal
broken_is_no_goal h = false≢true (sym (h.sound 0 (record { item = 1; value = 2 }) (omega arith)))

pub mirrored_is_not_observed : MirroredIsNotObserved
mirrored_is_not_observed h = false≢true (sym (h.seen 0 x_low (omega arith)).unmirrored)

lacked : (pending : List Pair) → Contains pending x_low → Lacks 0 pending → ⊥
lacked pending (k, below, e) h = h k x_low below (ap (λ (p : Pair). p.item) e)

pub once_before_tick : OnceBeforeTick
once_before_tick (a, y, change, rest) =
    lacked y.pending
    (subst (λ l. Contains l x_low) (sym (ap (λ (z : ExecutiveState). z.pending) change.2)) ((change.1.each x_low).1 (inr (contains_here x_low x_low [] refl))))
    (rest.0.seen 0 x_low (omega arith)).new

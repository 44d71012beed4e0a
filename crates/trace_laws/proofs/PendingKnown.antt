-- What bears on which events may come next.
use Rattle.std.proofs.Common.{◌≡◌, List, [], Option, Some, None, Contains, sym, ap, subst, ◌∙◌}
use Rattle.cca_base.specs.declared.cube.Pair.{Pair}
use Rattle.cca_base.specs.declared.events.Event.{Event}
use Rattle.cca_base.specs.declared.events.Event.TheVariants as event
use Rattle.cca_base.specs.declared.events.TickReport.{TickReport}
use Rattle.cca_base.specs.Accepted.{CompiledModel}
use Rattle.cca_base.specs.Cube.{IsUnion}
use Rattle.cca_base.specs.Trace.{ExecutiveState, ReplyRule}
use Rattle.cca_laws.proofs.OneOrder.{one_union}
use Rattle.trace_laws.specs.Events.{Acts, PendingAfter, mirrored_after}
use Rattle.trace_laws.proofs.EventsJoin.{AreAlike, tick_alike}

pub one_pending : (pending : List Pair) (e : Event) (a b : List Pair) → PendingAfter pending e a → PendingAfter pending e b → b ≡ a
one_pending pending (event.Observe pairs) a b h k = one_union (Contains pending) (Contains pairs) b a k h
one_pending pending event.Tick a b h k = k ∙ sym h
one_pending pending event.Reset a b h k = k ∙ sym h
one_pending pending (event.Goal pairs) a b h k = k ∙ sym h
one_pending pending event.Clear a b h k = k ∙ sym h
one_pending pending (event.Fault p) a b h k = k ∙ sym h
one_pending pending (event.Mirror v) a b h k = k ∙ sym h

pub union_same : (x y : ExecutiveState) (pairs both : List Pair) → both ≡ y.pending → IsUnion (Contains x.pending) (Contains pairs) both → IsUnion (Contains x.pending) (Contains pairs) y.pending
union_same x y pairs both e h = subst (IsUnion (Contains x.pending) (Contains pairs)) e h

module _ (b : CompiledModel) (answers : ReplyRule) where
  pub known_after : (x y : ExecutiveState) (e : Event) (report : Option TickReport) → Acts b answers x e y report → PendingAfter x.pending e y.pending × (y.mirrored ≡ mirrored_after x.mirrored e)
  known_after x y event.Tick None acts = absurd acts
  known_after x y event.Tick (Some report) acts = let same : AreAlike (record x { pending = [] }) y = tick_alike b.model answers x report.shown y acts.2 in (sym same.pending, sym same.mirrored)
  known_after x y (event.Goal pairs) None (goal, sorted, e) = (ap (λ (s : ExecutiveState). s.pending) e, ap (λ (s : ExecutiveState). s.mirrored) e)
  known_after x y (event.Goal pairs) (Some report) acts = absurd acts.0
  known_after x y event.Clear None e = (ap (λ (s : ExecutiveState). s.pending) e, ap (λ (s : ExecutiveState). s.mirrored) e)
  known_after x y event.Clear (Some report) acts = absurd acts.0
  known_after x y (event.Observe pairs) None (both, union, e) = (union_same x y pairs both (sym (ap (λ (s : ExecutiveState). s.pending) e)) union, ap (λ (s : ExecutiveState). s.mirrored) e)
  known_after x y (event.Observe pairs) (Some report) acts = absurd acts.0
  known_after x y (event.Fault p) None e = (ap (λ (s : ExecutiveState). s.pending) e, ap (λ (s : ExecutiveState). s.mirrored) e)
  known_after x y (event.Fault p) (Some report) acts = absurd acts.0
  known_after x y (event.Mirror v) None e = (ap (λ (s : ExecutiveState). s.pending) e, ap (λ (s : ExecutiveState). s.mirrored) e)
  known_after x y (event.Mirror v) (Some report) acts = absurd acts.0
  known_after x y event.Reset None e = (ap (λ (s : ExecutiveState). s.pending) e, ap (λ (s : ExecutiveState). s.mirrored) e)
  known_after x y event.Reset (Some report) acts = absurd acts.0

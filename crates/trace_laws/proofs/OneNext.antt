-- Where an event leads, and what is reported of it, is one.
use Rattle.std.proofs.Common.{◌≡◌, ℕ, List, length, Option, Some, None, Contains, refl, sym, subst, ◌∙◌}
use Rattle.cca_base.specs.declared.cube.Pair.{Pair}
use Rattle.cca_base.specs.declared.events.Event.{Event}
use Rattle.cca_base.specs.declared.events.Event.TheVariants as event
use Rattle.cca_base.specs.declared.events.Reply.{Reply}
use Rattle.cca_base.specs.declared.events.Shown.{Shown}
use Rattle.cca_base.specs.declared.events.Shown.TheVariants.{Estimated, Unexplained, Holding}
use Rattle.cca_base.specs.declared.events.TickReport.{TickReport}
use Rattle.cca_base.specs.Accepted.{CompiledModel, IsCompiled}
use Rattle.cca_base.specs.Orders.{numbers_below, IsSorted}
use Rattle.cca_base.specs.Plans.{Promising}
use Rattle.cca_base.specs.Successors.{Nominal}
use Rattle.cca_base.specs.Estimates as estimates
use Rattle.cca_base.specs.Trace.{ExecutiveState, IsReply, Changes, command_of, TickShows}
use Rattle.cca_base.proofs.NominalLaws.{one_nominal}
use Rattle.cca_laws.proofs.OneOrder.{one_union, none_twice, one_sorted}
use Rattle.cca_laws.proofs.OneTrace.{one_seen, after_tick, both_going}
use Rattle.cca_laws.proofs.EstimateLaws.{one_estimate, never_both}
use Rattle.cca_laws.proofs.OnePick.{one_reply}
use Rattle.trace_laws.specs.Events.{Acts}

module _ (b : CompiledModel) (compiled : IsCompiled b) where
  reply_at : (s : List ℕ) (goal : Option (List Pair)) (r t : Reply) → IsReply (Promising b) s goal r → IsReply (Promising b) s goal t → r ≡ t
  reply_at s None r t h k = h ∙ sym k
  reply_at s (Some goal) r t h k = one_reply b s (none_twice b.model (numbers_below (length b.model.components)) b.order compiled.order) goal r t h.chosen k.chosen

  -- what a tick shows, and where it leads
  one_shown : (x : ExecutiveState) (shown other : Shown) (y z : ExecutiveState) → TickShows b.model (Promising b) x shown y → TickShows b.model (Promising b) x other z → (y ≡ z) × (shown ≡ other)
  one_shown x (Estimated cost state reply) (Estimated more there back) y z h k =
      let m = b.model in
      let seen : h.seen ≡ k.seen = one_seen m x h.seen k.seen h.observed k.observed in
      let both = one_estimate m x.estimate x.command k.seen state.modes there.modes cost more (subst (λ l. estimates.Estimate m x.estimate x.command l state.modes cost) seen h.estimate) k.estimate in
      let answer : reply ≡ back = reply_at there.modes x.goal reply back (subst (λ l. IsReply (Promising b) l x.goal reply) both.0 h.replies) k.replies in
      let plants : h.plant ≡ k.plant = one_nominal m x.plant (command_of back) h.plant k.plant compiled.accepted.well_formed.commands (subst (λ r. Nominal m x.plant (command_of r) h.plant) answer h.moves) k.moves in
      (h.after ∙ (λ i. after_tick x (both.0 i) (answer i) (plants i)) ∙ sym k.after, (λ i. Estimated (both.1 i) (record { modes = both.0 i }) (answer i)))
  one_shown x (Estimated cost state reply) Unexplained y z h k =
      let seen : k.seen ≡ h.seen = one_seen b.model x k.seen h.seen k.observed h.observed in
      absurd (never_both b.model x.estimate x.command h.seen state.modes cost h.estimate (subst (estimates.Unexplained b.model x.estimate x.command) seen k.unexplained))
  one_shown x (Estimated cost state reply) Holding y z h k = both_going x.holding h.going k.0
  one_shown x Unexplained (Estimated cost state reply) y z h k =
      let seen : h.seen ≡ k.seen = one_seen b.model x h.seen k.seen h.observed k.observed in
      absurd (never_both b.model x.estimate x.command k.seen state.modes cost k.estimate (subst (estimates.Unexplained b.model x.estimate x.command) seen h.unexplained))
  one_shown x Unexplained Unexplained y z h k = (h.after ∙ sym k.after, refl)
  one_shown x Unexplained Holding y z h k = both_going x.holding h.going k.0
  one_shown x Holding (Estimated cost state reply) y z h k = both_going x.holding k.going h.0
  one_shown x Holding Unexplained y z h k = both_going x.holding k.going h.0
  one_shown x Holding Holding y z h k = (h.1 ∙ sym k.1, refl)

  -- where an event leads that is no tick
  one_changed : (x : ExecutiveState) (e : Event) (y z : ExecutiveState) → Changes b.model (IsSorted b.order) x e y → Changes b.model (IsSorted b.order) x e z → y ≡ z
  one_changed x (event.Goal pairs) y z (p, h, e) (q, k, f) =
      e ∙ (λ i. record x { goal = Some (one_sorted b.order pairs p q (none_twice b.model (numbers_below (length b.model.components)) b.order compiled.order) h k i) }) ∙ sym f
  one_changed x event.Clear y z e f = e ∙ sym f
  one_changed x (event.Observe pairs) y z (p, h, e) (q, k, f) = e ∙ (λ i. record x { pending = one_union (Contains x.pending) (Contains pairs) p q h k i }) ∙ sym f
  one_changed x (event.Fault p) y z e f = e ∙ sym f
  one_changed x (event.Mirror v) y z e f = e ∙ sym f
  one_changed x event.Reset y z e f = e ∙ sym f
  one_changed x event.Tick y z e f = absurd e

  -- a report comes or it doesn't
  tick_or_not : {X : Type 0} (x : ExecutiveState) (e : Event) (y z : ExecutiveState) (report : TickReport) → Acts b (Promising b) x e y None → Acts b (Promising b) x e z (Some report) → X
  tick_or_not x (event.Goal pairs) y z report h k = absurd k.0
  tick_or_not x event.Clear y z report h k = absurd k.0
  tick_or_not x (event.Observe pairs) y z report h k = absurd k.0
  tick_or_not x (event.Fault p) y z report h k = absurd k.0
  tick_or_not x (event.Mirror v) y z report h k = absurd k.0
  tick_or_not x event.Reset y z report h k = absurd k.0
  tick_or_not x event.Tick y z report h k = absurd h

  -- where an event leads, and what is reported of it
  pub acts_are_one : (x : ExecutiveState) (e : Event) (y z : ExecutiveState) (r q : Option TickReport) → Acts b (Promising b) x e y r → Acts b (Promising b) x e z q → (y ≡ z) × (r ≡ q)
  acts_are_one x e y z None None h k = (one_changed x e y z h k, refl)
  acts_are_one x e y z None (Some q) h k = tick_or_not x e y z q h k
  acts_are_one x e y z (Some r) None h k = tick_or_not x e z y r k h
  acts_are_one x e y z (Some r) (Some q) h k =
      let same = one_shown x r.shown q.shown y z h.2 k.2 in
      (same.0, λ i. Some (record { tick = (h.1 ∙ sym k.1) i; shown = same.1 i }))

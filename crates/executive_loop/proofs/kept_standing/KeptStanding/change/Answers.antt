use Rattle.std.proofs.Common.{length, ap, subst, arith}
use Rattle.std.proofs.lemmas.Option.{slice_get_within}
use Rattle.cca_base.specs.Accepted.{CompiledModel}
use Rattle.cca_base.specs.Trace.{ExecutiveState, MayBeObserved, MayBeSeen, MayCome}
use Rattle.reach_laws.proofs.Order.{order_from}
use Rattle.reach_laws.proofs.Trails.{order_few}
use Rattle.trace_laws.proofs.PendingPairs.{pending_values}
use Rattle.executive_loop.specs.Borrowed.{event_read}
use Rattle.executive_loop.specs.declared.event_ref.EventRef.{EventRef}
use Rattle.executive_loop.proofs.PendingRoom.{joined_few}
use Rattle.executive_loop.proofs.kept_standing.KeptStanding.change.Goals as goal

pub sort_into-requires-clause-room : goal.sort_into-requires-clause-room
sort_into-requires-clause-room c =
    let b : CompiledModel = c.args.compiled.now in let is = c.model-model.ensures.compiled in
    omega (arith, order_few b.model b.order (order_from b.model b.order is.order), is.accepted.well_formed.limits.components, c.self.invariant.goal)

pub join-requires-clause-room : goal.join-requires-clause-room
join-requires-clause-room c =
    let b : CompiledModel = c.args.compiled.now in let x : ExecutiveState = c.args.self.now in
    let may : MayBeObserved b.model x.pending x.mirrored c.in-Observe.pairs.now = subst (λ (e : EventRef). MayCome b.model x.pending x.mirrored (event_read e)) c.in-Observe.is c.requires.may_come in
    let few = joined_few b.model x.mirrored x.pending c.in-Observe.pairs.now c.requires.fits.rising (pending_values b x c.requires.fits) may in
    omega (arith, few, ap (λ (y : ExecutiveState). length y.pending) c.self-in-Observe.view_is, c.model-model.ensures.compiled.accepted.well_formed.limits.variables, c.self-in-Observe.invariant.pending)

pub with-self-inside-requires : goal.with-self-inside-requires
with-self-inside-requires c =
    let b : CompiledModel = c.args.compiled.now in let x : ExecutiveState = c.args.self.now in
    let may : MayBeSeen b.model x.pending x.mirrored c.in-Mirror.v = subst (λ (e : EventRef). MayCome b.model x.pending x.mirrored (event_read e)) c.in-Mirror.is c.requires.may_come in
    omega (arith, slice_get_within b.model.variables c.in-Mirror.v may.variable may.of_model, c.model-model.ensures.compiled.accepted.well_formed.limits.variables)

use Rattle.std.proofs.Common.{◌≡◌, true, false, List, [], None, subst, ◌∙◌, ◌+◌}
use Rattle.cca_base.specs.declared.cube.Pair.{Pair}
use Rattle.cca_base.specs.declared.state.State.{State}
use Rattle.cca_base.specs.Accepted.{CompiledModel}
use Rattle.cca_base.specs.Trace.{ExecutiveState, Observed}
use Rattle.mode_estimator.specs.Estimated.{IsEstimate}
use Rattle.mode_estimator.specs.declared.answer.Estimate.TheVariants.{Found, Unexplained}
use Rattle.executive_loop.specs.Borrowed.{shown_with}
use Rattle.executive_loop.proofs.ShownTicks.{shows_answered, shows_unexplained}
use Rattle.executive_loop.proofs.tick.make_tick.Goals as goal

pub returns-in-Some-clause-shows : goal.returns-in-Some-clause-shows
returns-in-Some-clause-shows c =
    let b : CompiledModel = c.args.compiled.now.value in
    let x : ExecutiveState = c.args.standing.now in
    let seen : List Pair = c.observe.new.workspace.seen.items in
    let found : State = c.estimate_in-found.new.space.found in
    let cost = c.in-Some.cost in
    let y : ExecutiveState = c.answer-outcome.new.standing in
    let observed : Observed b.model x seen = subst (λ (z : CompiledModel). Observed z.model x seen) c.deref.ensures c.observe.ensures.seen in
    let going : x.holding ≡ false = rw (← c.standing.view_is) c.if-standing.false in
    let estimate : IsEstimate b.model x.estimate x.command seen (Found found cost) =
    subst (λ (z : CompiledModel). IsEstimate z.model x.estimate x.command seen (Found found cost)) c.deref-2.ensures
    (subst (λ (ps : List Pair). IsEstimate c.deref-2.result.now.model x.estimate x.command ps (Found found cost)) c.as_slice.ensures.items
    (subst (λ (s : ExecutiveState). IsEstimate c.deref-2.result.now.model s.estimate s.command c.as_slice.result.now (Found found cost)) c.standing.view_is c.in-Some.ensures.estimate)) in
    shows_answered b x going seen observed cost found (shown_with y.estimate c.answer-outcome.result) y estimate c.answer-outcome.ensures.answered

pub returns-in-None-clause-shows : goal.returns-in-None-clause-shows
returns-in-None-clause-shows c =
    let b : CompiledModel = c.args.compiled.now.value in
    let x : ExecutiveState = c.args.standing.now in
    let seen : List Pair = c.observe.new.workspace.seen.items in
    let y : ExecutiveState = c.hold.new.self in
    let observed : Observed b.model x seen = subst (λ (z : CompiledModel). Observed z.model x seen) c.deref.ensures c.observe.ensures.seen in
    let going : x.holding ≡ false = rw (← c.standing.view_is) c.if-standing.false in
    let estimate : IsEstimate b.model x.estimate x.command seen Unexplained =
    subst (λ (z : CompiledModel). IsEstimate z.model x.estimate x.command seen Unexplained) c.deref-2.ensures
    (subst (λ (ps : List Pair). IsEstimate c.deref-2.result.now.model x.estimate x.command ps Unexplained) c.as_slice.ensures.items
    (subst (λ (s : ExecutiveState). IsEstimate c.deref-2.result.now.model s.estimate s.command c.as_slice.result.now Unexplained) c.standing.view_is c.in-None.ensures.estimate)) in
    shows_unexplained b x going seen observed y estimate
    (c.hold.ensures ∙ (λ i. record x { command = None; pending = []; holding = true; ticks = (c.standing.view_is i).ticks + 1 }))

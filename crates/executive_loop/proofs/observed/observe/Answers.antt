use Rattle.std.proofs.Common.{ap, subst, ◌∙◌, sym, List}
use Rattle.cca_base.specs.declared.cube.Pair.{Pair}
use Rattle.cca_base.specs.Trace.{ExecutiveState}
use Rattle.consistency.specs.Observed.{IsObserved}
use Rattle.executive_loop.proofs.observed.observe.Goals as goal

pub returns-clause-seen : goal.returns-clause-seen
returns-clause-seen c = rw (← c.standing.view_is, ← c.model.ensures.value)
    (subst (λ (ps : List Pair). IsObserved c.model.result.now c.standing.inside.plant.modes c.standing.inside.mirrored ps c.observed_in.new.seen.items)
    (c.pending.ensures.pairs ∙ sym (ap (λ (x : ExecutiveState). x.pending) c.standing.view_is)) c.observed_in.ensures.seen)

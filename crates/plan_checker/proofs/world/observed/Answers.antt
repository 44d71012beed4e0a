use Rattle.std.proofs.lemmas.Result.{IfOk-weaker}
use Rattle.cca_base.specs.declared.state.Seen.{Seen}
use Rattle.cca_base.specs.Trace.{ExecutiveState, Observed}
use Rattle.plan_checker.specs.Worlds.{AreSeen}
use Rattle.plan_checker.proofs.WorldParts.{observed_seen}
use Rattle.plan_checker.proofs.world.observed.Goals as goal

pub returns : goal.returns
returns c =
    let x : ExecutiveState = c.args.standing.now in
    let seen = rw c.as_slice.ensures at c.observed_by.ensures.seen in
    IfOk-weaker c.observed_by.result (λ (r : Seen). Observed c.args.rules.now.model.now x r.pairs) (λ (r : Seen). AreSeen c.args.rules.now.model.now x r.pairs)
    (λ r h. observed_seen c.args.rules.now.model.now x r.pairs (rw (← c.standing.view_is) c.if-standing.false) h) (rw (← c.standing.view_is) seen)

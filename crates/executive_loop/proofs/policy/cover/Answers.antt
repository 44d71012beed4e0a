use Rattle.std.proofs.Common.{◌≡◌, ◌↔◌, true, subst}
use Rattle.reversibility.specs.ClassParts.{ClassParts}
use Rattle.reversibility.specs.Promises.{StandsByChain}
use Rattle.executive_loop.proofs.CoveredStates.{covers_is}
use Rattle.executive_loop.proofs.policy.cover.Goals as goal

pub returns-clause-value : goal.returns-clause-value
returns-clause-value c =
    covers_is c.args.tables.now c.args.state.now.modes c.covers.result
    (subst (λ (p : ClassParts). (c.covers.result ≡ true) ↔ StandsByChain p c.args.state.now.modes) c.classes.ensures.value c.covers.ensures.modes)

use Rattle.std.proofs.Common.{subst}
use Rattle.trajectory_estimator.specs.Queries.{IsAsked}
use Rattle.trajectory_estimator.proofs.query.Query.alloc.Goals as goal

pub returns : goal.returns
returns c =
    let its = c.self.invariant.0 in
    subst IsAsked c.self.view_is (record { model = its.compiled.accepted.well_formed; anchor = its.anchor; few = its.few; values = its.values })

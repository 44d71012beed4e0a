use Rattle.std.proofs.Common.{subst}
use Rattle.cca_base.specs.State.{IsState}
use Rattle.trajectory_estimator.proofs.Opening.{started}
use Rattle.trajectory_estimator.proofs.tracker.Tracker.reset.Goals as goal

pub invariant_of-self : goal.invariant_of-self
invariant_of-self c =
    let its = c.self.invariant.0 in (
      rw (c.in_ok-self-inside.ensures.value, c.new.ensures, c.new-2.ensures) (started c.self.inside.compiled c.self.inside.worlds c.self.inside.changes c.self.inside.ticks its.compiled its.clauses its.costs
          (subst (IsState c.self.inside.compiled.model) c.in_ok-self-inside.ensures.value c.in_ok-self-inside.ensures.state)),
      c.self.invariant.1,
    )

use Rattle.std.proofs.Common.{◌≤◌, ◌-◌, length}
use Rattle.cca_base.specs.declared.limits.TheConstants.{MAX_PLAN}
use Rattle.reversibility.specs.ClassParts.{CoversState}
use Rattle.plan_runner.specs.Walked.{WholeTo}
use Rattle.plan_runner.proofs.walked.walk.Given as goal

abbrev pub invariant-walking : goal.invariant-walking
invariant-walking g l = WholeTo l.tables.classes.compiled l.goal.pairs l.state.modes l.plan l.at.modes
    × CoversState l.tables.classes l.at.modes × (length l.plan ≤ MAX_PLAN)

abbrev pub decreases-walking : goal.decreases-walking
decreases-walking g l = MAX_PLAN - length l.plan

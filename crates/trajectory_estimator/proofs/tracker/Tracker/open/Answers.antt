use Rattle.std.proofs.Common.{length, subst}
use Rattle.cca_base.specs.PlantModel.{PlantModel}
use Rattle.cca_base.specs.State.{IsState}
use Rattle.consistency.specs.Worlds.{AreWorldsOf}
use Rattle.trajectory_estimator.specs.Changes.{AreChangesOf}
use Rattle.trajectory_estimator.specs.Spaces.{IsWindowSpace}
use Rattle.trajectory_estimator.proofs.Opening.{started}
use Rattle.trajectory_estimator.proofs.tracker.Tracker.open.Goals as goal

pub invariant_of-result : goal.invariant_of-result
invariant_of-result c =
    let b = c.args.compiled in (
      rw (c.in_ok-anchor.ensures.value, c.new.ensures, c.new-2.ensures) (started b c.in_ok-worlds.worlds c.in_ok-changes.changes 0 c.model-model.ensures.compiled
          (subst (λ (m : PlantModel). AreWorldsOf m c.in_ok-worlds.worlds) c.model-model.ensures.value c.in_ok-worlds.ensures)
          (subst (λ (m : PlantModel). AreChangesOf m c.in_ok-changes.changes) c.model-model.ensures.value c.in_ok-changes.ensures)
          (subst (IsState b.model) c.in_ok-anchor.ensures.value c.in_ok-anchor.ensures.state)),
      subst (λ (m : PlantModel). IsWindowSpace c.in_ok-worlds.worlds (length m.components) c.in_ok-space.space) c.model-model.ensures.value c.in_ok-space.ensures,
    )

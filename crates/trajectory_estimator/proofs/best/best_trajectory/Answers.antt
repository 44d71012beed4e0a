use Rattle.std.proofs.Common.{List, map, IfOk, length, sym, subst}
use Rattle.cca_base.specs.PlantModel.{PlantModel}
use Rattle.trajectory_estimator.specs.Asked.{Asked, IsBestOf, entry_of}
use Rattle.trajectory_estimator.specs.Spaces.{IsWindowSpace}
use Rattle.trajectory_estimator.specs.declared.record.Record.{Record}
use Rattle.trajectory_estimator.proofs.best.best_trajectory.Goals as goal

pub best_of-requires : goal.best_of-requires
best_of-requires c =
    let own : IsWindowSpace c.in_ok-worlds.worlds (length c.args.compiled.now.model.components) c.in_ok-space.space =
    subst (λ (m : PlantModel). IsWindowSpace c.in_ok-worlds.worlds (length m.components) c.in_ok-space.space) c.model-2.ensures.value c.in_ok-space.ensures in
    record { space = subst (λ (q : Asked). IsWindowSpace q.worlds (length q.model.components) c.in_ok-space.space) (sym c.new-query.ensures) own }

pub returns : goal.returns
returns c =
    let asked : IfOk c.best_of.result (IsBestOf c.args.compiled.now.model c.args.anchor.now.modes (map entry_of c.as_slice.result.now)) =
    subst (λ (q : Asked). IfOk c.best_of.result (IsBestOf q.model q.anchor q.records)) c.new-query.ensures c.best_of.ensures.best in
    subst (λ (l : List Record). IfOk c.best_of.result (IsBestOf c.args.compiled.now.model c.args.anchor.now.modes (map entry_of l))) c.as_slice.ensures asked

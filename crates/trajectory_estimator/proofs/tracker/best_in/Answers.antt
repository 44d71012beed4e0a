use Rattle.std.proofs.Common.{List, IfOk, length, map, sym, subst}
use Rattle.trajectory_estimator.specs.Asked.{Asked, IsBestOf, entry_of}
use Rattle.trajectory_estimator.specs.Spaces.{IsWindowSpace}
use Rattle.trajectory_estimator.specs.declared.record.Record.{Record}
use Rattle.trajectory_estimator.proofs.tracker.best_in.Goals as goal

pub best_of-requires : goal.best_of-requires
best_of-requires c = record { space = subst (λ (q : Asked). IsWindowSpace q.worlds (length q.model.components) c.args.space.now) (sym c.new-query.ensures) c.requires.space }

pub returns-clause-best : goal.returns-clause-best
returns-clause-best c =
    let asked : IfOk c.best_of.result (IsBestOf c.args.compiled.now.model c.args.window.now.anchor.modes (map entry_of c.as_slice-records.result.now)) =
    subst (λ (q : Asked). IfOk c.best_of.result (IsBestOf q.model q.anchor q.records)) c.new-query.ensures c.best_of.ensures.best in
    subst (λ (l : List Record). IfOk c.best_of.result (IsBestOf c.args.compiled.now.model c.args.window.now.anchor.modes (map entry_of l))) c.as_slice-records.ensures asked

pub returns-clause-space : goal.returns-clause-space
returns-clause-space c = subst (λ (q : Asked). IsWindowSpace q.worlds (length q.model.components) c.best_of.new.space) c.new-query.ensures c.best_of.ensures.space

use Rattle.std.proofs.Common.{◌≡◌, length}
use Rattle.trajectory_estimator.specs.Spaces.{IsWindowSpace}
use Rattle.trajectory_estimator.proofs.WindowClashes.{StandLast}
use Rattle.trajectory_estimator.proofs.paths.WindowPathsPathsWindowSpace.clash.Given as goal

abbrev pub invariant-loop-done : goal.invariant-loop-done
invariant-loop-done l = record {
  space : IsWindowSpace l.self.query.now.worlds (length l.self.query.now.model.components) l.space;
  stand : StandLast l.self.query.now l.values l.names l.fn.group l.done;
  room : l.cut.room ≡ l.initial.cut.room;
}

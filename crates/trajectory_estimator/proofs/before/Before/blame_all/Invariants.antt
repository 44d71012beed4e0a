use Rattle.std.proofs.Common.{◌≡◌, All, take}
use Rattle.cca_base.specs.Cube.{IsCube}
use Rattle.trajectory_estimator.specs.Clashes.{Blames, IsCutWith}
use Rattle.trajectory_estimator.proofs.before.Before.blame_all.Given as goal

abbrev pub invariant-loop-pair : goal.invariant-loop-pair
invariant-loop-pair l = record {
  cut : IsCutWith l.self l.initial.cut.items l.cut.items;
  blames : All (Blames l.self l.cut.items) (take l.pair-index l.pair-items);
  cube : IsCube l.cut.items;
  room : l.cut.room ≡ l.initial.cut.room;
}

use Rattle.std.proofs.Common.{◌≡◌, All, take}
use Rattle.cca_base.specs.Cube.{IsCube}
use Rattle.cca_base.specs.declared.cube.Pair.{Pair}
use Rattle.trajectory_estimator.specs.Clashes.{Blames, IsAgainst, IsCutWith}
use Rattle.trajectory_estimator.proofs.before.Before.blame_each.Given as goal

abbrev pub invariant-loop-cube : goal.invariant-loop-cube
invariant-loop-cube l = record {
  cut : IsCutWith l.self l.initial.cut.items l.cut.items;
  blames : All (λ cube. (p : Pair) × IsAgainst cube p × Blames l.self l.cut.items p) (take l.cube-index l.ways);
  cube : IsCube l.cut.items;
  room : l.cut.room ≡ l.initial.cut.room;
}

use Rattle.std.proofs.Common.{All, take}
use Rattle.cca_base.specs.Cube.{IsBeforeCube}
use Rattle.guard_compiler.proofs.cover.place_of.Given as goal

abbrev pub invariant-loop-place : goal.invariant-loop-place
invariant-loop-place l = All (λ other. IsBeforeCube l.cube other → ⊥) (take l.place l.cubes)

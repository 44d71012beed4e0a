use Rattle.std.proofs.Common.{take, All}
use Rattle.reach_laws.specs.Classes.{AreInside}
use Rattle.reversibility.specs.ClassParts.{in_row}
use Rattle.reversibility.proofs.open.is_open.Given as goal

abbrev pub invariant-loop-cube : goal.invariant-loop-cube
invariant-loop-cube l = All (λ cube. AreInside (in_row l.rows) cube → ⊥) (take l.cube-index l.cubes)

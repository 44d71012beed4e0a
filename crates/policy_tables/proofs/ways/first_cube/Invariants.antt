use Rattle.std.proofs.Common.{take, All}
use Rattle.reach_laws.specs.Classes.{AreInside}
use Rattle.reversibility.specs.ClassParts.{in_row}
use Rattle.policy_tables.proofs.ways.first_cube.Given as goal

abbrev pub invariant-loop-i : goal.invariant-loop-i
invariant-loop-i l = All (λ cube. AreInside (in_row l.rows) cube → ⊥) (take l.i l.cubes)

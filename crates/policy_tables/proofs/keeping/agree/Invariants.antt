use Rattle.std.proofs.Common.{take}
use Rattle.policy_tables.specs.Keeping.{AgreeOn}
use Rattle.reversibility.specs.ClassParts.{in_row}
use Rattle.policy_tables.proofs.keeping.agree.Given as goal

abbrev pub invariant-loop-cube : goal.invariant-loop-cube
invariant-loop-cube l = AgreeOn (in_row l.one) (in_row l.other) (take l.cube-index l.cubes)

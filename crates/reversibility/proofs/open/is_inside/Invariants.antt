use Rattle.std.proofs.Common.{take}
use Rattle.reach_laws.specs.Classes.{AreInside}
use Rattle.reversibility.specs.ClassParts.{in_row}
use Rattle.reversibility.proofs.open.is_inside.Given as goal

abbrev pub invariant-loop-pair : goal.invariant-loop-pair
invariant-loop-pair l = AreInside (in_row l.rows) (take l.pair-index l.cube)

use Rattle.policy_tables.specs.Filling.{HasRoom, AreRightRows}
use Rattle.reversibility.specs.ClassParts.{in_row}
use Rattle.reversibility.specs.Paths.{ArePaths}
use Rattle.policy_tables.proofs.filling.write_cells.Given as goal

abbrev pub invariant-loop-from : goal.invariant-loop-from
invariant-loop-from l = AreRightRows l.classes l.ways l.component l.from l.codes × HasRoom l.work × ArePaths l.classes.compiled.model (in_row l.classes.rows) l.component l.work.paths

use Rattle.policy_tables.proofs.FirstCube.{IsRowTo}
use Rattle.policy_tables.proofs.ways.sorted_row.Given as goal

abbrev pub invariant-loop-cube : goal.invariant-loop-cube
invariant-loop-cube l = IsRowTo l.compiled.order l.cubes l.row l.cube-index

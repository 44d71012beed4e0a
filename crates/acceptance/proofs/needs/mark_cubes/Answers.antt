use Rattle.std.proofs.Common.{subst}
use Rattle.causal_graph.specs.Search.{Marks}
use Rattle.acceptance.specs.Marks.{components_of}
use Rattle.acceptance.proofs.NeededMarks.{cube_none, cube_more}
use Rattle.acceptance.proofs.needs.mark_cubes.Goals as goal

pub loop-cube-init : goal.loop-cube-init
loop-cube-init c = cube_none c.args.marks.now

pub loop-cube-preserved : goal.loop-cube-preserved
loop-cube-preserved c =
    cube_more c.args.cubes.now c.loop-cube.cube-index c.cube-item.result c.args.marks.now c.loop-cube.marks c.mark_cube.new.marks c.loop-cube-test.true c.cube-item.is c.loop-cube.invariant
    (subst (λ l. Marks (components_of l) c.loop-cube.marks c.mark_cube.new.marks) c.as_slice.ensures.pairs c.mark_cube.ensures)

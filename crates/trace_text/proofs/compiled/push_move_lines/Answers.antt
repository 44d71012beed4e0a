use Rattle.std.proofs.Common.{◌∷◌, ◌+◌, List, ap, sym, drop, ◌∙◌}
use Rattle.std.specs.Prelude.{flat_map}
use Rattle.std.proofs.lemmas.List.{at_drop_more}
use Rattle.byte_buffer.proofs.Pushing.{continues_then}
use Rattle.cca_base.specs.declared.cube.Pair.{Pair}
use Rattle.trace_text.specs.Compiled.{cube_line}
use Rattle.trace_text.proofs.compiled.push_move_lines.Goals as goal

pub loop-cube-preserved : goal.loop-cube-preserved
loop-cube-preserved c =
    let lines = λ (cubes : List (List Pair)). flat_map (cube_line c.as_slice-components.result.now) cubes in
    let left = at_drop_more lines c.args.cubes.now c.loop-cube.cube-index c.cube-item.result c.loop-cube-test.true
    ∙ ap (λ (cube : List Pair). lines (cube ∷ drop (c.loop-cube.cube-index + 1) c.args.cubes.now)) (sym c.cube-item.is) in
    continues_then left c.loop-cube.invariant c.in_ok-push_cube.ensures

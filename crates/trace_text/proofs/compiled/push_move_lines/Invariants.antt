use Rattle.std.proofs.Common.{drop}
use Rattle.std.specs.Prelude.{flat_map}
use Rattle.trace_text.specs.Compiled.{cube_line}
use Rattle.byte_buffer.proofs.Pushing.{Continues}
use Rattle.trace_text.proofs.compiled.push_move_lines.Given as goal

-- the cubes that are left
abbrev pub invariant-loop-cube : goal.invariant-loop-cube
invariant-loop-cube l = Continues (flat_map (cube_line l.components) l.cubes) (flat_map (cube_line l.components) (drop l.cube-index l.cubes)) l.initial.out l.out

use Rattle.std.proofs.Common.{take}
use Rattle.acceptance.specs.Marks.{AddsMarks, OccursIn}
use Rattle.acceptance.proofs.needs.mark_cubes.Given as goal

abbrev pub invariant-loop-cube : goal.invariant-loop-cube
invariant-loop-cube l = AddsMarks (OccursIn (take l.cube-index l.cubes)) l.initial.marks l.marks

use Rattle.std.proofs.Common.{take}
use Rattle.guard_compiler.specs.Cover.{AreApart}
use Rattle.guard_compiler.proofs.LeastUnionLaws.{CoversPairs}
use Rattle.guard_compiler.proofs.unions.keep_unions.Given as goal

abbrev pub invariant-loop-second : goal.invariant-loop-second
invariant-loop-second l = record {
  apart : AreApart l.cubes.items;
  covers : CoversPairs l.initial.cubes.items l.cubes.items l.first (take l.second-index l.seconds);
}

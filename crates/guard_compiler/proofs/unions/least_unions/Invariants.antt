use Rattle.std.proofs.Common.{◌≤◌, length, take}
use Rattle.guard_compiler.specs.Cover.{AreApart}
use Rattle.guard_compiler.proofs.LeastUnionLaws.{CoversBoth}
use Rattle.guard_compiler.proofs.unions.least_unions.Given as goal

abbrev pub invariant-loop-first : goal.invariant-loop-first
invariant-loop-first l = record {
  apart : AreApart l.cubes.items;
  few : length l.cubes.items ≤ l.most;
  covers : CoversBoth (take l.first-index l.firsts) l.seconds l.cubes.items;
}

use Rattle.std.proofs.Common.{◌<◌, drop, slice_index}
use Rattle.std.specs.Prelude.{All}
use Rattle.clash_analysis.specs.Learning.{SharesNone}
use Rattle.clash_analysis.proofs.level.lowest.Given as goal

abbrev pub invariant-lowering : goal.invariant-lowering
invariant-lowering l = record {
  less : l.level < l.levels;
  apart : All (SharesNone l.learn l.u) (drop (slice_index l.marks l.level) l.trail);
}

abbrev pub decreases-lowering : goal.decreases-lowering
decreases-lowering l = l.level

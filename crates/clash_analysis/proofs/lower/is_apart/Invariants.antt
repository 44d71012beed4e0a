use Rattle.std.proofs.Common.{take}
use Rattle.std.specs.Prelude.{All}
use Rattle.clash_analysis.specs.Learning.{SharesNone}
use Rattle.clash_analysis.proofs.lower.is_apart.Given as goal

abbrev pub invariant-loop-i : goal.invariant-loop-i
invariant-loop-i l = All (SharesNone l.learn l.u) (take l.i l.back)

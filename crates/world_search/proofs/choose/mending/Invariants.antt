use Rattle.std.proofs.Common.{take}
use Rattle.std.specs.Prelude.{All}
use Rattle.clash_analysis.specs.Learning.{IsOut}
use Rattle.world_search.specs.Words.{literals_of}
use Rattle.world_search.proofs.choose.mending.Given as goal

abbrev pub invariant-loop-literal : goal.invariant-loop-literal
invariant-loop-literal l = All (IsOut l.dom) (literals_of (take l.literal-index l.literals))

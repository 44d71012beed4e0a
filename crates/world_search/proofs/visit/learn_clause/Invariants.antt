use Rattle.std.proofs.Common.{◌≡◌, take, length}
use Rattle.clash_analysis.specs.Learning.{IsClauseOf}
use Rattle.world_search.specs.Words.{literals_of}
use Rattle.world_search.proofs.visit.learn_clause.Given as goal

abbrev pub invariant-loop-literal : goal.invariant-loop-literal
invariant-loop-literal l = record {
  long : length l.learn ≡ length l.fn.learn;
  clause : IsClauseOf l.start (literals_of (take l.literal-index l.literals)) l.learn;
}

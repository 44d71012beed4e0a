use Rattle.std.proofs.Common.{take}
use Rattle.world_search.specs.Choices.{AllMetBy}
use Rattle.world_search.proofs.choose.broken.Given as goal

abbrev pub invariant-loop-clause : goal.invariant-loop-clause
invariant-loop-clause l = AllMetBy l.trial (take l.clause-index l.clauses)

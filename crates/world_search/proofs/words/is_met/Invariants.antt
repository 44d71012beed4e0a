use Rattle.std.proofs.Common.{◌≡◌, drop}
use Rattle.world_search.specs.Words.{met}
use Rattle.world_search.proofs.words.is_met.Given as goal

abbrev pub invariant-loop-literal : goal.invariant-loop-literal
invariant-loop-literal l = met l.values (drop l.literal-index l.literals) ≡ met l.values l.literals

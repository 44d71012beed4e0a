use Rattle.consistency.specs.Spaces.{IsWorldSpace}
use Rattle.consistency.proofs.CoreTrying.{IsTryingCore}
use Rattle.consistency.proofs.conflicts.kept_of.Given as goal

abbrev pub invariant-loop-at : goal.invariant-loop-at
invariant-loop-at l = record {
  trying : IsTryingCore l.rules.model.now l.seen.pairs l.pairs l.kept l.at l.core;
  space : IsWorldSpace l.rules.worlds.now l.space;
}

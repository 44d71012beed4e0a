use Rattle.guard_compiler.proofs.MarkLaws.{IsSpreadTo}
use Rattle.guard_compiler.proofs.marks.spread.Given as goal

abbrev pub invariant-loop-rule : goal.invariant-loop-rule
invariant-loop-rule l = IsSpreadTo l.components l.rules l.initial.marks l.marks l.fresh l.rule-index

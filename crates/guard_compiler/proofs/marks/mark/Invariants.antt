use Rattle.guard_compiler.proofs.MarkLaws.{IsMarkedTo}
use Rattle.guard_compiler.proofs.marks.mark.Given as goal

abbrev pub invariant-loop-literal : goal.invariant-loop-literal
invariant-loop-literal l = IsMarkedTo l.components l.literal-items l.initial.marks l.marks l.fresh l.literal-index

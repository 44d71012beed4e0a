use Rattle.consistency.specs.Spaces.{IsWorldSpace}
use Rattle.conformance_compile.proofs.kept.are_right.Given as goal

abbrev pub invariant-loop-row : goal.invariant-loop-row
invariant-loop-row l = IsWorldSpace l.worlds-inside.problem l.space

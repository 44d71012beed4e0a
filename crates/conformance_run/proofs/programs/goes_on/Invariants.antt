use Rattle.std.proofs.Common.{◌≡◌, None}
use Rattle.control_syntax.specs.Kept.{MayRunSoFar}
use Rattle.conformance_run.proofs.programs.goes_on.Given as goal

abbrev pub invariant-loop-line : goal.invariant-loop-line
invariant-loop-line l = (l.reader.whole ≡ None) × MayRunSoFar l.model l.reader

use Rattle.std.proofs.Common.{◌<◌, All}
use Rattle.conformance_compile.proofs.needs.row_of.Given as goal

abbrev pub invariant-loop-u : goal.invariant-loop-u
invariant-loop-u l = All (λ u. u < l.n) l.row

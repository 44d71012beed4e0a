use Rattle.std.proofs.Common.{◌≡◌, ◌<◌, All, length}
use Rattle.conformance_compile.proofs.needs.rows_of.Given as goal

abbrev pub invariant-loop-list : goal.invariant-loop-list
invariant-loop-list l = (length l.rows ≡ l.list-index) × All (All (λ u. u < length l.lists)) l.rows

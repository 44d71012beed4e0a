use Rattle.std.proofs.Common.{◌≡◌, take}
use Rattle.std.specs.List.{filter}
use Rattle.prime_implicants.specs.DenseClauses.{mentions}
use Rattle.prime_implicants.proofs.dense_clauses.naming.Given as goal

abbrev pub invariant-loop-row : goal.invariant-loop-row
invariant-loop-row l = l.out.items ≡ filter (mentions l.x) (take l.row-index l.rows)

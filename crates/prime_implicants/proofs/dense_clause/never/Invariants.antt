use Rattle.std.proofs.Common.{◌≡◌, replicate}
use Rattle.prime_implicants.proofs.dense_clause.never.Given as goal

abbrev pub invariant-loop : goal.invariant-loop
invariant-loop l = l.row ≡ replicate l.counter 0

use Rattle.std.proofs.Common.{◌≡◌, take}
use Rattle.prime_implicants.specs.DenseClauses.{union_rows}
use Rattle.prime_implicants.proofs.dense_clause.union.Given as goal

abbrev pub invariant-loop-i : goal.invariant-loop-i
invariant-loop-i l = l.both ≡ union_rows (take l.i l.a) (take l.i l.b)

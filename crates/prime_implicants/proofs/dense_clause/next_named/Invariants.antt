use Rattle.std.proofs.Common.{◌≡◌, ℕ, true, ◌<◌, ◌≤◌}
use Rattle.prime_implicants.specs.DenseClauses.{is_zero}
use Rattle.prime_implicants.proofs.dense_clause.next_named.Given as goal

abbrev pub invariant-loop-i : goal.invariant-loop-i
invariant-loop-i l = (i : ℕ) → l.at ≤ i → i < l.i → is_zero i l.row ≡ true

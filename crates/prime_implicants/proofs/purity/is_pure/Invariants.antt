use Rattle.std.proofs.Common.{◌≡◌, false}
use Rattle.prime_implicants.specs.DenseClauses.{have_value}
use Rattle.clause_form.specs.Clauses.{any_below}
use Rattle.prime_implicants.proofs.purity.is_pure.Given as goal

abbrev pub invariant-loop-v : goal.invariant-loop-v
invariant-loop-v l = any_below l.v (λ v. have_value l.x v l.rows) ≡ false

use Rattle.prime_implicants.specs.DenseClauses.{mentions}
use Rattle.prime_implicants.specs.Found.{all_below}
use Rattle.std.specs.Option.{is_none}
use Rattle.std.proofs.Common.{◌≡◌, ◌||◌, true, None, get_or}
use Rattle.prime_implicants.proofs.minimal.names_all.Given as goal

abbrev pub invariant-loop-i : goal.invariant-loop-i
invariant-loop-i l = all_below l.i (λ i. is_none (get_or l.partial i None) || mentions i l.row) ≡ true

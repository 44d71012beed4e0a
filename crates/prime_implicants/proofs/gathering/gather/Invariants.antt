use Rattle.std.proofs.Common.{◌≡◌, ℕ, true, length, Some, slice_set}
use Rattle.std.specs.List.{list_all}
use Rattle.prime_implicants.specs.Partial.{IsWithin, Partial}
use Rattle.prime_implicants.specs.DenseClauses.{all_unfalsified, is_wide, is_zero, fix_row}
use Rattle.clause_form.specs.Clauses.{any_below}
use Rattle.prime_implicants.proofs.gathering.gather.Given as goal

abbrev pub invariant-loop-v : goal.invariant-loop-v
invariant-loop-v l =
    record {
      wide : list_all (is_wide (length l.sizes)) l.out.items ≡ true;
      zero : (y : ℕ) → list_all (λ row. is_zero y (fix_row l.x row)) l.rows ≡ true → list_all (is_zero y) l.out.items ≡ true;
      unfalsified_at : (q : Partial) → IsWithin l.sizes q → all_unfalsified q l.out.items ≡ any_below l.v (λ v. all_unfalsified (slice_set q l.x (Some v)) l.rows);
    }

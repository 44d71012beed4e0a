use Rattle.std.proofs.Common.{◌≡◌, ℕ, true, ◌≤◌, length, take}
use Rattle.std.specs.List.{list_all}
use Rattle.cca_base.specs.declared.limits.TheConstants.{MAX_ROWS}
use Rattle.clause_form.specs.Clauses.{all_met}
use Rattle.prime_implicants.specs.Partial.{Values, given}
use Rattle.prime_implicants.specs.DenseClauses.{all_unfalsified, is_wide, is_zero}
use Rattle.prime_implicants.proofs.rows.rows_of.Given as goal

abbrev pub invariant-loop-clause : goal.invariant-loop-clause
invariant-loop-clause l =
    record {
      wide : list_all (is_wide (length l.clauses.sizes)) l.rows.items ≡ true;
      unfalsified_at : (xs : Values) → length xs ≡ length l.clauses.sizes → all_unfalsified (given xs) l.rows.items ≡ all_met xs (take l.clause-index l.clauses.clauses);
      zero : (y : ℕ) → MAX_ROWS ≤ y → list_all (is_zero y) l.rows.items ≡ true;
    }

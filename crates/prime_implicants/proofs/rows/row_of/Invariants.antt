use Rattle.std.proofs.Common.{◌≡◌, ℕ, true, ◌≤◌, length, take}
use Rattle.cca_base.specs.declared.limits.TheConstants.{MAX_ROWS}
use Rattle.clause_form.specs.Clauses.{is_met}
use Rattle.prime_implicants.specs.Partial.{Values, given}
use Rattle.prime_implicants.specs.DenseClauses.{row_unfalsified, is_zero}
use Rattle.prime_implicants.proofs.rows.row_of.Given as goal

abbrev pub invariant-loop-literal : goal.invariant-loop-literal
invariant-loop-literal l =
    record {
      wide : length l.row ≡ l.n;
      unfalsified_at : (xs : Values) → length xs ≡ l.n → row_unfalsified (given xs) l.row ≡ is_met xs (take l.literal-index l.clause.literals);
      zero : (y : ℕ) → MAX_ROWS ≤ y → is_zero y l.row ≡ true;
    }

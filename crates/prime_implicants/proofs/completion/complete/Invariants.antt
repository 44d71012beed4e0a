use Rattle.prime_implicants.specs.Partial.{IsWithin, Partial, IsTotal, HasFrom}
use Rattle.prime_implicants.specs.DenseClauses.{all_unfalsified, is_wide, is_zero}
use Rattle.prime_implicants.specs.Found.{IsBlockedByRows}
use Rattle.std.proofs.Common.{◌≡◌, ℕ, true, false, length}
use Rattle.std.specs.List.{list_all}
use Rattle.prime_implicants.proofs.completion.complete.Given as goal

abbrev pub invariant-loop-x : goal.invariant-loop-x
invariant-loop-x l =
    record {
      wide : list_all (is_wide (length l.sizes)) l.rows.items ≡ true;
      zero : (y : ℕ) → list_all (is_zero y) l.initial.rows.items ≡ true → list_all (is_zero y) l.rows.items ≡ true;
      same : (a : Partial) → IsWithin l.sizes a → IsTotal a → all_unfalsified a l.rows.items ≡ all_unfalsified a l.initial.rows.items;
      so_far : (q : Partial) → IsWithin l.sizes q → HasFrom l.x q → IsBlockedByRows l.sizes l.initial.rows.items q → all_unfalsified q l.rows.items ≡ false;
    }

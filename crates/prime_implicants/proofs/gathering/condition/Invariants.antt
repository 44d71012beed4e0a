use Rattle.std.proofs.Common.{◌≡◌, Bool, true, Some, slice_set, take}
use Rattle.std.specs.List.{list_all}
use Rattle.prime_implicants.specs.Partial.{Partial}
use Rattle.prime_implicants.specs.DenseClauses.{all_unfalsified, Sets, is_sized, fix_row}
use Rattle.prime_implicants.proofs.gathering.condition.Given as goal

abbrev pub invariant-loop-row : goal.invariant-loop-row
invariant-loop-row l =
    record {
      unfalsified_at : (q : Partial) → list_all (is_sized q) l.rows ≡ true → all_unfalsified q l.out.items ≡ all_unfalsified (slice_set q l.x (Some l.v)) (take l.row-index l.rows);
      same : (p : Sets → Bool) → list_all (λ row. p (fix_row l.x row)) l.rows ≡ true → list_all p l.out.items ≡ true;
    }

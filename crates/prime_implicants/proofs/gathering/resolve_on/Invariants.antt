use Rattle.std.proofs.Common.{◌≡◌, true, Bool, ◌||◌, take}
use Rattle.std.specs.List.{list_all}
use Rattle.prime_implicants.specs.Partial.{IsWithin, Partial}
use Rattle.prime_implicants.specs.DenseClauses.{all_unfalsified, union_rows, Sets}
use Rattle.prime_implicants.proofs.gathering.resolve_on.Given as goal

abbrev pub invariant-loop-row : goal.invariant-loop-row
invariant-loop-row l =
    record {
      unfalsified_at : (q : Partial) → IsWithin l.sizes q → all_unfalsified q l.out.items ≡ (all_unfalsified q (take l.row-index l.left) || all_unfalsified q l.right);
      same : (p : Sets → Bool) → list_all (λ row. list_all (λ other. p (union_rows row other)) l.right) l.left ≡ true → list_all p l.out.items ≡ true;
    }

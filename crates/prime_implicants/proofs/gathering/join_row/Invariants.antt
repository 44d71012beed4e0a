use Rattle.std.proofs.Common.{◌≡◌, true, Bool, ◌&&◌, ◌||◌, take}
use Rattle.std.specs.List.{list_all}
use Rattle.prime_implicants.specs.Partial.{IsWithin, Partial}
use Rattle.prime_implicants.specs.DenseClauses.{all_unfalsified, row_unfalsified, union_rows, Sets}
use Rattle.prime_implicants.proofs.gathering.join_row.Given as goal

abbrev pub invariant-loop-other : goal.invariant-loop-other
invariant-loop-other l =
    record {
      unfalsified_at : (q : Partial) → IsWithin l.sizes q → all_unfalsified q l.out.items ≡ (all_unfalsified q l.initial.out.items && (row_unfalsified q l.row || all_unfalsified q (take l.other-index l.others)));
      same : (p : Sets → Bool) → list_all p l.initial.out.items ≡ true → list_all (λ other. p (union_rows l.row other)) l.others ≡ true → list_all p l.out.items ≡ true;
    }

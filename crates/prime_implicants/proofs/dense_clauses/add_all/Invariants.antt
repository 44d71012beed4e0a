use Rattle.std.proofs.Common.{◌≡◌, true, Bool, ◌&&◌, take}
use Rattle.std.specs.List.{list_all}
use Rattle.prime_implicants.specs.Partial.{Partial}
use Rattle.prime_implicants.specs.DenseClauses.{all_unfalsified, Sets}
use Rattle.prime_implicants.proofs.dense_clauses.add_all.Given as goal

abbrev pub invariant-loop-row : goal.invariant-loop-row
invariant-loop-row l =
    record {
      unfalsified_at : (q : Partial) → all_unfalsified q l.rows.items ≡ (all_unfalsified q l.initial.rows.items && all_unfalsified q (take l.row-index l.more));
      same : (p : Sets → Bool) → list_all p l.initial.rows.items ≡ true → list_all p l.more ≡ true → list_all p l.rows.items ≡ true;
    }

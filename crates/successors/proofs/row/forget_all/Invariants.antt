use Rattle.std.proofs.Common.{◌≡◌, None, All, length, map, take}
use Rattle.successors.proofs.row.forget_all.Given as goal

abbrev pub invariant-loop-component : goal.invariant-loop-component
invariant-loop-component l = record {
  sizes : map length l.table.items ≡ map length l.fn.table.items;
  none : All (All (λ o. o ≡ None)) (take l.component l.table.items);
}

use Rattle.std.proofs.Common.{◌≡◌, None, All, length, map, take}
use Rattle.successors.proofs.row.no_costs.Given as goal

abbrev pub invariant-loop-component : goal.invariant-loop-component
invariant-loop-component l = record {
  sizes : map length l.table.items ≡ map (λ x. length x.modes) (take l.component-index l.components);
  none : All (All (λ o. o ≡ None)) l.table.items;
}

use Rattle.std.proofs.Common.{◌≡◌, None, All, length, take}
use Rattle.successors.proofs.row.forget.Given as goal

abbrev pub invariant-loop-mode : goal.invariant-loop-mode
invariant-loop-mode l = record {
  full : length l.costs ≡ length l.fn.costs;
  none : All (λ o. o ≡ None) (take l.mode l.costs);
}

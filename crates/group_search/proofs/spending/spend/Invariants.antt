use Rattle.std.proofs.Common.{◌≡◌, length}
use Rattle.group_search.proofs.SpendLaws.{AreTaken}
use Rattle.group_search.proofs.spending.spend.Given as goal

abbrev pub invariant-loop-pair : goal.invariant-loop-pair
invariant-loop-pair l = record {
  taken : AreTaken l.components l.pairs l.amount l.fn.spending.spent l.spending.spent l.last l.pair-index;
  named : length l.spending.named ≡ length l.fn.spending.named;
}

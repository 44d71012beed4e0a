use Rattle.std.proofs.Common.{◌≡◌, length}
use Rattle.group_search.proofs.spending.Spending.of.Given as goal

abbrev pub invariant-loop : goal.invariant-loop
invariant-loop l = record {
  spent : length l.spent ≡ l.counter;
  named : length l.named ≡ l.counter;
}

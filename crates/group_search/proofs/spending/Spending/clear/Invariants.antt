use Rattle.std.proofs.Common.{◌≡◌, length}
use Rattle.group_search.proofs.spending.Spending.clear.Given as goal

abbrev pub invariant-loop-c : goal.invariant-loop-c
invariant-loop-c l = record {
  spent : length l.self.spent ≡ length l.fn.self.spent;
  named : length l.self.named ≡ length l.fn.self.named;
}

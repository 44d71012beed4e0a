use Rattle.std.proofs.Common.{◌≡◌, ℕ, List, ◌||◌, take, length}
use Rattle.clause_form.specs.Clauses.{AreValues, all_met, AllBelow, AllOthers}
use Rattle.clause_form.proofs.combination.distributed.Given as goal

abbrev pub invariant-loop-clause : goal.invariant-loop-clause
invariant-loop-clause l = record {
  met : (xs : List ℕ) → AreValues l.sizes xs → all_met xs l.out.items ≡ (all_met xs (take l.clause-index l.clauses) || all_met xs l.more);
  below : AllBelow (length l.sizes) l.out.items;
  names : (x : ℕ) → AllOthers x l.clauses → AllOthers x l.more → AllOthers x l.out.items;
}

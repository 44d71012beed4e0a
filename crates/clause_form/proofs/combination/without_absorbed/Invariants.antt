use Rattle.std.proofs.Common.{◌≡◌, ℕ, List, IsTrue}
use Rattle.clause_form.specs.Clauses.{is_met, all_met, AllBelow, AllOthers}
use Rattle.clause_form.proofs.combination.without_absorbed.Given as goal

abbrev pub invariant-loop-clause : goal.invariant-loop-clause
invariant-loop-clause l = record {
  met : (xs : List ℕ) → IsTrue (is_met xs l.literals) → all_met xs l.kept.items ≡ all_met xs l.yielded;
  fewer : (xs : List ℕ) → IsTrue (all_met xs l.yielded) → IsTrue (all_met xs l.kept.items);
  below : (n : ℕ) → AllBelow n l.yielded → AllBelow n l.kept.items;
  names : (x : ℕ) → AllOthers x l.yielded → AllOthers x l.kept.items;
}

use Rattle.std.proofs.Common.{◌≡◌, ℕ, List, ◌||◌, ◌&&◌, take, length}
use Rattle.clause_form.specs.Clauses.{AreValues, is_met, all_met, AllBelow, AreOthers, AllOthers}
use Rattle.clause_form.proofs.combination.add_row.Given as goal

abbrev pub invariant-loop-clause : goal.invariant-loop-clause
invariant-loop-clause l = record {
  met : (xs : List ℕ) → AreValues l.sizes xs
      → all_met xs l.all.items ≡ (all_met xs l.fn.clauses.items && (is_met xs l.one.literals || all_met xs (take l.clause-index l.more)));
  below : AllBelow (length l.sizes) l.all.items;
  names : (x : ℕ) → AreOthers x l.one.literals → AllOthers x l.more → AllOthers x l.fn.clauses.items → AllOthers x l.all.items;
}

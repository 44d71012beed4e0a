use Rattle.std.proofs.Common.{◌≡◌, ◌++◌, ◌&&◌, ℕ, List, length}
use Rattle.std.specs.Vec.Iter.{into_iter_items}
use Rattle.clause_form.specs.Clauses.{AreValues, all_met, AllBelow, AllOthers}
use Rattle.clause_form.proofs.combination.with_all.Given as goal

abbrev pub invariant-loop-clause : goal.invariant-loop-clause
invariant-loop-clause l = record {
  parted : l.yielded ++ into_iter_items l.clause-iterator ≡ l.fn.more.items;
  met : (xs : List ℕ) → AreValues l.sizes xs → all_met xs l.all.items ≡ (all_met xs l.fn.clauses.items && all_met xs l.yielded);
  below : AllBelow (length l.sizes) l.all.items;
  names : (x : ℕ) → AllOthers x l.fn.clauses.items → AllOthers x l.yielded → AllOthers x l.all.items;
}

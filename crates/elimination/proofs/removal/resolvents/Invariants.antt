use Rattle.std.proofs.Common.{◌≡◌, ℕ, List, length, slice_set}
use Rattle.clause_form.specs.Clauses.{AllBelow, AllOthers, AreValues, all_met, any_below}
use Rattle.elimination.proofs.removal.resolvents.Given as goal

abbrev pub invariant-loop-value : goal.invariant-loop-value
invariant-loop-value l = record {
  met : (xs : List ℕ) → AreValues l.sizes xs → all_met xs l.all.items ≡ any_below l.value (λ v. all_met (slice_set xs l.subject v) l.clauses);
  below : AllBelow (length l.sizes) l.all.items;
  gone : AllOthers l.subject l.all.items;
  names : (x : ℕ) → AllOthers x l.clauses → AllOthers x l.all.items;
}

use Rattle.std.proofs.Common.{◌≡◌, ◌<◌, ℕ, List, length, take, set}
use Rattle.clause_form.specs.Clauses.{all_met, AllBelow, AllOthers}
use Rattle.clause_form.proofs.condition.given.Given as goal

abbrev pub invariant-loop-clause : goal.invariant-loop-clause
invariant-loop-clause l = record {
  met : (xs : List ℕ) → l.subject < length xs → all_met xs l.others.items ≡ all_met (set xs l.subject l.value) (take l.clause-index l.clauses);
  gone : AllOthers l.subject l.others.items;
  below : (n : ℕ) → AllBelow n l.clauses → AllBelow n l.others.items;
  names : (x : ℕ) → AllOthers x l.clauses → AllOthers x l.others.items;
}

use Rattle.std.proofs.Common.{ℕ, List, ◌≤◌, length, take, IsTrue}
use Rattle.clause_form.specs.Clauses.{is_met}
use Rattle.clause_form.proofs.subsumption.subsumes.Given as goal

abbrev pub invariant-loop-literal : goal.invariant-loop-literal
invariant-loop-literal l = record {
  inside : l.at ≤ length l.wide;
  met : (xs : List ℕ) → IsTrue (is_met xs (take l.literal-index l.narrow)) → IsTrue (is_met xs l.wide);
}

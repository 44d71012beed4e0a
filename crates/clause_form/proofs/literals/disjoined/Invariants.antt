use Rattle.std.proofs.Common.{ℕ, ◌≤◌, length, take}
use Rattle.clause_form.specs.Clauses.{AreBelow, AreMerged, AreOthers}
use Rattle.clause_form.proofs.literals.disjoined.Given as goal

abbrev pub invariant-loop-literal : goal.invariant-loop-literal
invariant-loop-literal l = record {
  inside : l.at ≤ length l.first;
  merged : AreMerged l.first l.at (take l.literal-index l.literal-items) l.literals;
  below : (n : ℕ) → AreBelow n l.first → AreBelow n l.literal-items → AreBelow n l.literals;
  names : (x : ℕ) → AreOthers x l.first → AreOthers x l.literal-items → AreOthers x l.literals;
}

use Rattle.std.proofs.Common.{ℕ, List}
use Rattle.clause_form.specs.declared.clause.Literal.{Literal}
use Rattle.clause_form.specs.Clauses.{AreBelow, AreMerged, AreOthers}
use Rattle.clause_form.proofs.literals.push_between.Given as goal

abbrev pub invariant-loop-at : goal.invariant-loop-at
invariant-loop-at l = record {
  merged : (others : List Literal) → AreMerged l.literals l.from others l.initial.merged → AreMerged l.literals l.at others l.merged;
  below : (n : ℕ) → AreBelow n l.literals → AreBelow n l.initial.merged → AreBelow n l.merged;
  names : (x : ℕ) → AreOthers x l.literals → AreOthers x l.initial.merged → AreOthers x l.merged;
}

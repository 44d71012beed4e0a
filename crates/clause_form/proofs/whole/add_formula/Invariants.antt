use Rattle.std.proofs.Common.{◌≡◌, ◌++◌}
use Rattle.clause_form.proofs.whole.add_formula.Given as goal

abbrev pub invariant-loop-clause : goal.invariant-loop-clause
invariant-loop-clause l = l.clauses ≡ l.fn.clauses ++ l.yielded

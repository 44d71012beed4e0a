use Rattle.std.proofs.Common.{◌≡◌, ◌++◌, take}
use Rattle.consistency.proofs.denied.add_copies.Given as goal

abbrev pub invariant-loop-clause : goal.invariant-loop-clause
invariant-loop-clause l = l.clauses ≡ l.fn.clauses ++ take l.clause-index l.rules

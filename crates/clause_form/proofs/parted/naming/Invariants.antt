use Rattle.std.proofs.Common.{◌≡◌, ◌==◌, filter, take}
use Rattle.clause_form.specs.Clauses.{names_one}
use Rattle.clause_form.proofs.parted.naming.Given as goal

abbrev pub invariant-loop-clause : goal.invariant-loop-clause
invariant-loop-clause l = l.with.items ≡ filter (names_one (λ u. u == l.subject)) (take l.clause-index l.clauses)

use Rattle.std.proofs.Common.{◌≡◌, ◌++◌, take}
use Rattle.guard_compiler.specs.Shared.{owned_by}
use Rattle.guard_compiler.proofs.owners.push_owned.Given as goal

abbrev pub invariant-loop-clause : goal.invariant-loop-clause
invariant-loop-clause l = l.rules ≡ l.initial.rules ++ owned_by l.x (take l.clause-index l.clauses)

use Rattle.std.proofs.Common.{◌≡◌, ◌++◌, take}
use Rattle.guard_compiler.specs.Shared.{unowned}
use Rattle.guard_compiler.proofs.rules.push_left.Given as goal

abbrev pub invariant-loop-clause : goal.invariant-loop-clause
invariant-loop-clause l = l.rules ≡ l.initial.rules ++ unowned (take l.clause-index l.left)

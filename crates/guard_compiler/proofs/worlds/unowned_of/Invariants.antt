use Rattle.std.proofs.Common.{◌≡◌, filter, take}
use Rattle.guard_compiler.specs.Rules.{clauses_in, is_unowned}
use Rattle.guard_compiler.proofs.worlds.unowned_of.Given as goal

abbrev pub invariant-loop-rule : goal.invariant-loop-rule
invariant-loop-rule l = l.clauses ≡ clauses_in (filter is_unowned (take l.rule-index l.rules))

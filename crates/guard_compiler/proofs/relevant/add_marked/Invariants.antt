use Rattle.std.proofs.Common.{◌≡◌, ◌++◌, filter, take}
use Rattle.cca_base.specs.Flags.{is_set}
use Rattle.guard_compiler.specs.Relevant.{bears}
use Rattle.guard_compiler.specs.Rules.{clauses_in}
use Rattle.guard_compiler.proofs.relevant.add_marked.Given as goal

abbrev pub invariant-loop-rule : goal.invariant-loop-rule
invariant-loop-rule l = l.clauses ≡ l.initial.clauses ++ clauses_in (filter (bears (is_set l.marks)) (take l.rule-index l.rules))

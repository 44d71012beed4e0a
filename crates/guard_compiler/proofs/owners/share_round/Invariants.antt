use Rattle.guard_compiler.specs.Shared.{IsTrial}
use Rattle.guard_compiler.proofs.owners.share_round.Given as goal

abbrev pub invariant-loop-k : goal.invariant-loop-k
invariant-loop-k l = IsTrial l.sizes l.components l.initial.rules l.initial.left.items l.rules l.left.items l.found

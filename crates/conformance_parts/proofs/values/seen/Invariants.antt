use Rattle.std.proofs.Common.{All}
use Rattle.cca_base.specs.State.{HasValue}
use Rattle.conformance_parts.proofs.values.seen.Given as goal

abbrev pub invariant-loop-p : goal.invariant-loop-p
invariant-loop-p l = All (λ p. HasValue l.model p.item p.value) l.list

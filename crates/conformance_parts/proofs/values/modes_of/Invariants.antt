use Rattle.std.proofs.Common.{All}
use Rattle.cca_base.specs.Model.{HasMode}
use Rattle.conformance_parts.proofs.values.modes_of.Given as goal

abbrev pub invariant-loop-p : goal.invariant-loop-p
invariant-loop-p l = All (λ p. HasMode l.model p.item p.value) l.cube

use Rattle.std.proofs.Common.{◌<◌, All, length}
use Rattle.cca_base.specs.Cube.{IsCube}
use Rattle.conformance_parts.proofs.values.pairs_of.Given as goal

abbrev pub invariant-loop-p : goal.invariant-loop-p
invariant-loop-p l = IsCube l.list × All (λ p. p.item < length l.model.components) l.list

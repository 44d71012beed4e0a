use Rattle.std.proofs.Common.{◌<◌, ℕ, slice_index}
use Rattle.cca_base.specs.Model.{IsInChain}
use Rattle.cca_base.proofs.model.Model.is_mending.Given as goal

-- each earlier component stands in a mode of the chain
abbrev pub invariant-loop-component : goal.invariant-loop-component
invariant-loop-component l = (d : ℕ) → d < l.component → IsInChain l.self.moves d (slice_index l.from.modes d) (slice_index l.to.modes d)

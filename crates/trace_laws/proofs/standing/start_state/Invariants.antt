use Rattle.std.proofs.Common.{◌≡◌, take}
use Rattle.cca_base.specs.State.{start_modes}
use Rattle.trace_laws.proofs.standing.start_state.Given as goal

abbrev pub invariant-loop-component : goal.invariant-loop-component
invariant-loop-component l = l.modes ≡ take l.component-index (start_modes l.model)

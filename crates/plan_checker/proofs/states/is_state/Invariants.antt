use Rattle.std.proofs.Common.{◌<◌, ℕ, slice_index}
use Rattle.cca_base.specs.Model.{HasMode}
use Rattle.plan_checker.proofs.states.is_state.Given as goal

abbrev pub invariant-loop-at : goal.invariant-loop-at
invariant-loop-at l = (c : ℕ) → c < l.at → HasMode l.model c (slice_index l.modes c)

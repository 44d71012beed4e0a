use Rattle.std.proofs.Common.{◌≡◌, length, take}
use Rattle.cca_base.specs.State.{start_modes}
use Rattle.successors.proofs.plant.Plant.reset.Given as goal

abbrev pub invariant-loop-at : goal.invariant-loop-at
invariant-loop-at l = record {
  full : length l.self-inside.state.modes ≡ length l.compiled.model.components;
  done : take l.at l.self-inside.state.modes ≡ take l.at (start_modes l.compiled.model);
}

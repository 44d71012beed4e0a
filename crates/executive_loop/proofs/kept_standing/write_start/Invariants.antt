use Rattle.std.proofs.Common.{◌≡◌, ◌<◌, ℕ, length, slice_index}
use Rattle.cca_base.specs.State.{start_modes}
use Rattle.executive_loop.proofs.kept_standing.write_start.Given as goal

abbrev pub invariant-loop-at : goal.invariant-loop-at
invariant-loop-at l = record {
  long : length l.modes ≡ length l.model.components;
  same : (k : ℕ) → k < l.at → slice_index l.modes k ≡ slice_index (start_modes l.model) k;
}

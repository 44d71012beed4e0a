use Rattle.std.proofs.Common.{◌≡◌, take}
use Rattle.trajectory_estimator.proofs.revised.copy_states.Given as goal

abbrev pub invariant-loop-state : goal.invariant-loop-state
invariant-loop-state l = l.copies ≡ take l.state-index l.states

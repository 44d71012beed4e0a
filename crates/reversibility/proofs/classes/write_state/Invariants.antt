use Rattle.std.proofs.Common.{◌≡◌, length, take}
use Rattle.reversibility.proofs.classes.write_state.Given as goal

-- the first modes are the other state's
abbrev pub invariant-loop-c : goal.invariant-loop-c
invariant-loop-c l = (length l.state.modes ≡ length l.other.modes) × (take l.c l.state.modes ≡ take l.c l.other.modes)

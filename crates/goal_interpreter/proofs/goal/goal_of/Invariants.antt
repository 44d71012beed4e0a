use Rattle.std.proofs.Common.{◌≡◌, take}
use Rattle.wish_laws.proofs.Settling.{pairs_in}
use Rattle.wish_laws.proofs.SoundGoals.{is_sound}
use Rattle.goal_interpreter.proofs.goal.goal_of.Given as goal

abbrev pub invariant-loop-i : goal.invariant-loop-i
invariant-loop-i l = l.pairs ≡ pairs_in (is_sound l.compiled.model) l.state.modes (take l.i l.compiled.order)

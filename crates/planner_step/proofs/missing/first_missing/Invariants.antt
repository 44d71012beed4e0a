use Rattle.std.proofs.Common.{take}
use Rattle.cca_base.specs.State.{Extends}
use Rattle.planner_step.proofs.missing.first_missing.Given as goal

abbrev pub invariant-loop-i : goal.invariant-loop-i
invariant-loop-i l = Extends l.state.modes (take l.i l.pairs)

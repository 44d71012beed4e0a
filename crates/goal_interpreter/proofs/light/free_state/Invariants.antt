use Rattle.std.proofs.Common.{◌≡◌, length}
use Rattle.reversibility.specs.ClassParts.{in_row}
use Rattle.goal_interpreter.specs.Choosing.{AreFreeModes}
use Rattle.goal_interpreter.proofs.light.free_state.Given as goal

abbrev pub invariant-loop-c : goal.invariant-loop-c
invariant-loop-c l =
    (length l.modes ≡ l.c) × AreFreeModes l.classes.compiled.model (in_row l.classes.rows) l.weights.rows l.state.modes l.modes

use Rattle.std.proofs.Common.{take}
use Rattle.reversibility.specs.ClassParts.{in_row}
use Rattle.goal_interpreter.specs.Choosing.{IsLightestAmong}
use Rattle.goal_interpreter.proofs.choose.choose.Given as goal

abbrev pub invariant-loop-i : goal.invariant-loop-i
invariant-loop-i l =
    IsLightestAmong l.classes.compiled.model (in_row l.classes.rows) l.weights.rows l.state.modes (take l.i l.cubes) l.best

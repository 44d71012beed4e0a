use Rattle.std.proofs.Common.{take}
use Rattle.reversibility.specs.ClassParts.{in_row}
use Rattle.wish_laws.specs.Lightest.{IsLightestOf}
use Rattle.goal_interpreter.proofs.candidate.candidate.Given as goal

abbrev pub invariant-loop-pair : goal.invariant-loop-pair
invariant-loop-pair l =
    IsLightestOf l.classes.compiled.model (in_row l.classes.rows) l.weights.rows l.state.modes (take l.pair-index l.cube) l.target.modes

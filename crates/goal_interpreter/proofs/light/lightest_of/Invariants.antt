use Rattle.goal_interpreter.specs.Choosing.{IsLightestBelow}
use Rattle.goal_interpreter.proofs.light.lightest_of.Given as goal

abbrev pub invariant-loop-mode : goal.invariant-loop-mode
invariant-loop-mode l = IsLightestBelow l.row l.set l.mode l.best

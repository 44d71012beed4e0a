use Rattle.std.proofs.Common.{take}
use Rattle.plan_runner.specs.WaysBack.{AreBackPairs}
use Rattle.plan_runner.proofs.goal_back.back_goal.Given as goal

abbrev pub invariant-loop-i : goal.invariant-loop-i
invariant-loop-i l = AreBackPairs l.tables.classes l.to.modes (take l.i l.tables.classes.compiled.order) l.pairs

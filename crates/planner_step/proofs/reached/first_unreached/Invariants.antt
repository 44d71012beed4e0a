use Rattle.std.proofs.Common.{take, ◌≤◌, ◌+◌}
use Rattle.cca_base.specs.Steps.{AreReached}
use Rattle.planner_step.proofs.reached.first_unreached.Given as goal

abbrev pub invariant-loop-i : goal.invariant-loop-i
invariant-loop-i g l = AreReached l.tables.classes.compiled.model l.state.modes (take l.i l.pairs) × ((l.initial.steps ≤ l.steps) × (l.steps ≤ l.initial.steps + l.i))

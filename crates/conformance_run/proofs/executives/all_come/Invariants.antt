use Rattle.std.proofs.Common.{◌≤◌}
use Rattle.conformance_run.proofs.executives.all_come.Given as goal

abbrev pub invariant-loop-i : goal.invariant-loop-i
invariant-loop-i l = l.executive.state.ticks ≤ l.i

use Rattle.std.proofs.Common.{◌≤◌}
use Rattle.conformance_run.proofs.trials.followed.Given as goal

abbrev pub invariant-loop-line : goal.invariant-loop-line
invariant-loop-line l = (l.executive.state.ticks ≤ l.made) × (l.made ≤ 9999)

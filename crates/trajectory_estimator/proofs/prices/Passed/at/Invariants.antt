use Rattle.std.proofs.Common.{slice_index}
use Rattle.trajectory_estimator.specs.Walks.{gate_place, mode_place}
use Rattle.trajectory_estimator.proofs.PriceLaws.{TakesFrom}
use Rattle.trajectory_estimator.proofs.prices.Passed.at.Given as goal

abbrev pub invariant-loop-from : goal.invariant-loop-from
invariant-loop-from l =
    TakesFrom l.asked l.at l.heads l.ahead (slice_index l.values (mode_place l.asked.query.now l.asked.component l.at)) (slice_index l.values (gate_place l.asked.query.now l.asked.component l.at)) l.from l.passed

use Rattle.trajectory_estimator.proofs.PriceLaws.{TakesBelow}
use Rattle.trajectory_estimator.proofs.prices.Passed.take_from.Given as goal

abbrev pub invariant-loop-to : goal.invariant-loop-to
invariant-loop-to l = TakesBelow l.head l.leaving l.ahead l.to l.initial.self l.self

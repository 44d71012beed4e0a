use Rattle.trajectory_estimator.proofs.PriceLaws.{ArePrices}
use Rattle.trajectory_estimator.proofs.prices.set_prices.Given as goal

abbrev pub invariant-loop-at : goal.invariant-loop-at
invariant-loop-at l = ArePrices l.asked l.at l.initial.columns l.columns

use Rattle.plan_checker.proofs.CostSums.{IsSumTo}
use Rattle.plan_checker.proofs.cost.total.Given as goal

abbrev pub invariant-loop-at : goal.invariant-loop-at
invariant-loop-at l = IsSumTo l.model l.from.modes l.nominal.modes l.to.modes l.at l.sum

use Rattle.plan_checker.proofs.GuardLaws.{AreSupportTo}
use Rattle.plan_checker.proofs.guards.support_pairs.Given as goal

abbrev pub invariant-loop-item : goal.invariant-loop-item
invariant-loop-item l = AreSupportTo l.known.model.now l.known.state.now.modes l.known.own l.item l.pairs

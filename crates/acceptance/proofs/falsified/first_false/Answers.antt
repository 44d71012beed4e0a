use Rattle.acceptance.proofs.FirstFalsified.{next_clause}
use Rattle.acceptance.proofs.falsified.first_false.Goals as goal

pub loop-clause-preserved : goal.loop-clause-preserved
loop-clause-preserved c =
    next_clause _ _ _ c.loop-clause.clause-index c.clause-item.result _ _ _ c.as_slice-clause-items.ensures c.loop-clause-test.true c.clause-item.is c.loop-clause.invariant c.in_ok-least_false.ensures c.first_of-best.ensures

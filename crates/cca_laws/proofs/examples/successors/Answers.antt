use Rattle.cca_laws.proofs.CostExamples.{opening_is_free, staying_shut_costs, standing_is_free, lesser_failure_counts, two_for_one}
use Rattle.cca_laws.proofs.examples.successors.Goals as goal

pub returns-clause-opening : goal.returns-clause-opening
returns-clause-opening c = opening_is_free

pub returns-clause-shut : goal.returns-clause-shut
returns-clause-shut c = staying_shut_costs

pub returns-clause-standing : goal.returns-clause-standing
returns-clause-standing c = standing_is_free

pub returns-clause-two_for_one : goal.returns-clause-two_for_one
returns-clause-two_for_one c = two_for_one

pub returns-clause-lesser : goal.returns-clause-lesser
returns-clause-lesser c = lesser_failure_counts

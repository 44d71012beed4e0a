use Rattle.cca_laws.proofs.OrderExamples.{one_implicant, one_need, cause_comes_last}
use Rattle.cca_laws.proofs.examples.implicants.Goals as goal

pub returns-clause-one : goal.returns-clause-one
returns-clause-one c = one_implicant

pub returns-clause-need : goal.returns-clause-need
returns-clause-need c = one_need

pub returns-clause-order : goal.returns-clause-order
returns-clause-order c = cause_comes_last

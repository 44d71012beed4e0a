use Rattle.cca_laws.proofs.CostLaws.{free_is_nominal, one_cost}
use Rattle.cca_laws.proofs.laws.costs.Goals as goal
use Rattle.cca_base.proofs.NominalLaws.{nominal_is_free}

pub returns-clause-free : goal.returns-clause-free
returns-clause-free c = free_is_nominal

pub returns-clause-nominal : goal.returns-clause-nominal
returns-clause-nominal c = nominal_is_free

pub returns-clause-one : goal.returns-clause-one
returns-clause-one c = one_cost

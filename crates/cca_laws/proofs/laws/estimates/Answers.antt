use Rattle.cca_laws.proofs.EstimateLaws.{one_estimate, never_both, first_is_right}
use Rattle.cca_laws.proofs.laws.estimates.Goals as goal

pub returns-clause-one : goal.returns-clause-one
returns-clause-one c = one_estimate

pub returns-clause-never_both : goal.returns-clause-never_both
returns-clause-never_both c = never_both

pub returns-clause-first : goal.returns-clause-first
returns-clause-first c = first_is_right

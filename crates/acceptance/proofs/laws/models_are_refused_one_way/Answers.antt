use Rattle.acceptance.proofs.OneRefusal.{there_is_one_refusal}
use Rattle.acceptance.proofs.RefusalSteps.{not_refused}
use Rattle.acceptance.proofs.laws.models_are_refused_one_way.Goals as goal

pub returns-clause-one : goal.returns-clause-one
returns-clause-one c = there_is_one_refusal

pub returns-clause-none : goal.returns-clause-none
returns-clause-none c = not_refused

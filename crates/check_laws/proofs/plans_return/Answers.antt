use Rattle.check_laws.proofs.CheckedPlans as lemmas
use Rattle.check_laws.proofs.plans_return.Goals as goal

pub returns : goal.returns
returns c = lemmas.plans_return

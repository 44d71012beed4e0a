use Rattle.check_laws.proofs.CheckedPlans as lemmas
use Rattle.check_laws.proofs.checked_plan_begins.Goals as goal

pub returns : goal.returns
returns c = lemmas.checked_plan_begins

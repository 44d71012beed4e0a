use Rattle.check_laws.proofs.CheckedPlans as lemmas
use Rattle.check_laws.proofs.one_end.Goals as goal

pub returns : goal.returns
returns c = lemmas.one_end

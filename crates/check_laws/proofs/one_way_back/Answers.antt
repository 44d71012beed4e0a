use Rattle.check_laws.proofs.CheckedPlans as lemmas
use Rattle.check_laws.proofs.one_way_back.Goals as goal

pub returns : goal.returns
returns c = lemmas.one_way_back

use Rattle.check_laws.proofs.CheckedPlans as lemmas
use Rattle.check_laws.proofs.tests_are_exact.Goals as goal

pub returns : goal.returns
returns c = lemmas.tests_are_exact

use Rattle.check_laws.proofs.StepsAgain as lemmas
use Rattle.check_laws.proofs.runs_are_made_again.Goals as goal

pub returns : goal.returns
returns c = lemmas.run_again

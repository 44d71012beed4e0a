use Rattle.reach_laws.proofs.Ready as lemmas
use Rattle.reach_laws.proofs.each_step_is_ready.Goals as goal

pub returns : goal.returns
returns c = lemmas.steps_are_ready

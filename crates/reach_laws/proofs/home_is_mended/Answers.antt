use Rattle.reach_laws.proofs.Stands as lemmas
use Rattle.reach_laws.proofs.home_is_mended.Goals as goal

pub returns : goal.returns
returns c = lemmas.home_is_mended

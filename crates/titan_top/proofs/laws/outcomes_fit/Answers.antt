use Rattle.titan_top.proofs.MachineLaws.{outcomes_fit}
use Rattle.titan_top.proofs.laws.outcomes_fit.Goals as goal

pub returns : goal.returns
returns c = outcomes_fit

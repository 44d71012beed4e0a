use Rattle.trace_laws.proofs.StaysRight.{right_stays_right}
use Rattle.trace_laws.proofs.right_estimates.Goals as goal

pub returns : goal.returns
returns c = right_stays_right

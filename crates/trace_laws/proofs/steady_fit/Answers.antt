use Rattle.cca_base.specs.Choice.{IsChosenReply}
use Rattle.trace_laws.proofs.FitsStay.{start_fits, stays_fitting}
use Rattle.trace_laws.proofs.steady_fit.Goals as goal

pub returns-clause-stays : goal.returns-clause-stays
returns-clause-stays c = λ b x y e report compiled h may acts. stays_fitting b compiled (IsChosenReply b) x y e report h may acts

pub returns-clause-start : goal.returns-clause-start
returns-clause-start c = start_fits

use Rattle.cca_laws.proofs.EmptyModelTicks.{empty_compiled, empty_trace}
use Rattle.cca_laws.proofs.examples.empty.Goals as goal

pub returns : goal.returns
returns c = (empty_compiled, empty_trace)

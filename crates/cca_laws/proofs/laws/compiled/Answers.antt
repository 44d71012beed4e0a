use Rattle.cca_laws.proofs.OneCompiled.{one_compiled}
use Rattle.cca_laws.proofs.laws.compiled.Goals as goal

pub returns-clause-one : goal.returns-clause-one
returns-clause-one c = one_compiled

pub returns-clause-used : goal.returns-clause-used
returns-clause-used c = λ m h. h.complete

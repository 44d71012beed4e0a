use Rattle.cca_base.proofs.Within.{formula_within}
use Rattle.cca_base.proofs.laws.formulas_are_within.Goals as goal

pub returns : goal.returns
returns c = formula_within

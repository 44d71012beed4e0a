-- What shows that a value made of a model's parts has a code: std's rules, and that formulas have codes.
use Rattle.std.specs.Coded.{Coded, codes}
use Rattle.cca_base.specs.contracts.formula.Formula as contracts
use Rattle.cca_base.specs.declared.formula.Formula.{Formula}

-- a formula has a code
abbrev pub formula_coded : Coded Formula
formula_coded = contracts.the_row.coded

pub ruleset model_codes = (codes, formula_coded)

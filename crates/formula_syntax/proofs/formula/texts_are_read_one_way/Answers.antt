use Rattle.formula_syntax.proofs.FormulaReadWhole.{one_way}
use Rattle.formula_syntax.proofs.SoundReadings.{answer_one_way}
use Rattle.formula_syntax.proofs.formula.texts_are_read_one_way.Goals as goal

pub returns-clause-answers : goal.returns-clause-answers
returns-clause-answers c = answer_one_way

pub returns-clause-texts : goal.returns-clause-texts
returns-clause-texts c = one_way

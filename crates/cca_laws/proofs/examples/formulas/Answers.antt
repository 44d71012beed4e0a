use Rattle.cca_laws.proofs.FormulaExamples.{depth_is_seven, choices_of_two, one_part_does_not_fit, none_among_does_not_fit}
use Rattle.cca_laws.proofs.examples.formulas.Goals as goal

pub returns-clause-depth : goal.returns-clause-depth
returns-clause-depth c = depth_is_seven

pub returns-clause-choices : goal.returns-clause-choices
returns-clause-choices c = choices_of_two

pub returns-clause-one_part : goal.returns-clause-one_part
returns-clause-one_part c = one_part_does_not_fit

pub returns-clause-none_among : goal.returns-clause-none_among
returns-clause-none_among c = none_among_does_not_fit

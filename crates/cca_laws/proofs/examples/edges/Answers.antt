use Rattle.cca_laws.proofs.EdgeExamples.{which_are_names, foreign_failure, costs_at_the_edge, out_of_first_use, which_are_choices, most_are_choices, one_more_is_too_many}
use Rattle.cca_laws.proofs.examples.edges.Goals as goal

pub returns-clause-names : goal.returns-clause-names
returns-clause-names c = which_are_names

pub returns-clause-foreign : goal.returns-clause-foreign
returns-clause-foreign c = foreign_failure

pub returns-clause-costs : goal.returns-clause-costs
returns-clause-costs c = costs_at_the_edge

pub returns-clause-first_use : goal.returns-clause-first_use
returns-clause-first_use c = out_of_first_use

pub returns-clause-choices : goal.returns-clause-choices
returns-clause-choices c = which_are_choices

pub returns-clause-one_more : goal.returns-clause-one_more
returns-clause-one_more c = one_more_is_too_many

pub returns-clause-most : goal.returns-clause-most
returns-clause-most c = most_are_choices

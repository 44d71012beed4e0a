use Rattle.causal_graph.proofs.ModelNeeds.{models_have_rows, orders_are_of_models, cycles_are_of_models, ancestors_are_of_models}
use Rattle.causal_graph.proofs.laws.answers_are_of_models.Goals as goal

pub returns-clause-rows : goal.returns-clause-rows
returns-clause-rows c = models_have_rows

pub returns-clause-orders : goal.returns-clause-orders
returns-clause-orders c = orders_are_of_models

pub returns-clause-cycles : goal.returns-clause-cycles
returns-clause-cycles c = cycles_are_of_models

pub returns-clause-ancestors : goal.returns-clause-ancestors
returns-clause-ancestors c = ancestors_are_of_models

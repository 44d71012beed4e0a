use Rattle.trace_text.proofs.LineExamples.{tick_of_valve, world_of_valve, route_of_valve, long_stands_alone, long_stands_with_others}
use Rattle.trace_text.proofs.line_laws.line_examples.Goals as goal

pub returns-clause-tick : goal.returns-clause-tick
returns-clause-tick c = tick_of_valve

pub returns-clause-world : goal.returns-clause-world
returns-clause-world c = world_of_valve

pub returns-clause-route : goal.returns-clause-route
returns-clause-route c = route_of_valve

pub returns-clause-long_alone : goal.returns-clause-long_alone
returns-clause-long_alone c = long_stands_alone

pub returns-clause-long_with_others : goal.returns-clause-long_with_others
returns-clause-long_with_others c = long_stands_with_others

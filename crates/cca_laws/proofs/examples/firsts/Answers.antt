use Rattle.cca_laws.proofs.FirstExamples.{lesser_world_is_first, greater_world_is_not, pipe_is_burst, pump_is_not_dead}
use Rattle.cca_laws.proofs.examples.firsts.Goals as goal

pub returns-clause-world : goal.returns-clause-world
returns-clause-world c = lesser_world_is_first

pub returns-clause-greater : goal.returns-clause-greater
returns-clause-greater c = greater_world_is_not

pub returns-clause-estimate : goal.returns-clause-estimate
returns-clause-estimate c = pipe_is_burst

pub returns-clause-later : goal.returns-clause-later
returns-clause-later c = pump_is_not_dead

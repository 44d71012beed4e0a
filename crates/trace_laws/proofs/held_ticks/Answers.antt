use Rattle.trace_laws.proofs.HeldTicks.{held_is_served, held_sent_twice, held_is_lost, held_is_excused}
use Rattle.trace_laws.proofs.held_ticks.Goals as goal

pub returns-clause-served : goal.returns-clause-served
returns-clause-served c = held_is_served

pub returns-clause-twice : goal.returns-clause-twice
returns-clause-twice c = held_sent_twice

pub returns-clause-lost : goal.returns-clause-lost
returns-clause-lost c = held_is_lost

pub returns-clause-excused : goal.returns-clause-excused
returns-clause-excused c = held_is_excused

use Rattle.trace_laws.proofs.LampTicks.{lit_is_served, sent_twice, lost_is_not, sent_again, others_excused, silent_is_not}
use Rattle.trace_laws.proofs.MirrorTicks.{mirror_shows_flow, mirrored_is_not_right}
use Rattle.trace_laws.proofs.lamp_ticks.Goals as goal

pub returns-clause-served : goal.returns-clause-served
returns-clause-served c = lit_is_served

pub returns-clause-twice : goal.returns-clause-twice
returns-clause-twice c = sent_twice

pub returns-clause-lost : goal.returns-clause-lost
returns-clause-lost c = lost_is_not

pub returns-clause-again : goal.returns-clause-again
returns-clause-again c = sent_again

pub returns-clause-excused : goal.returns-clause-excused
returns-clause-excused c = others_excused

pub returns-clause-silent : goal.returns-clause-silent
returns-clause-silent c = silent_is_not

pub returns-clause-mirror : goal.returns-clause-mirror
returns-clause-mirror c = mirror_shows_flow

pub returns-clause-mirrored : goal.returns-clause-mirrored
returns-clause-mirrored c = mirrored_is_not_right

use Rattle.cca_laws.proofs.ServeExamples.{one_of_one, two_of_one, too_late, none_after, not_lost, lamp_is_promised, lost_begins_none}
use Rattle.cca_laws.proofs.examples.serves.Goals as goal

pub returns-clause-one : goal.returns-clause-one
returns-clause-one c = one_of_one

pub returns-clause-two : goal.returns-clause-two
returns-clause-two c = two_of_one

pub returns-clause-late : goal.returns-clause-late
returns-clause-late c = too_late

pub returns-clause-none : goal.returns-clause-none
returns-clause-none c = none_after

pub returns-clause-lost : goal.returns-clause-lost
returns-clause-lost c = not_lost

pub returns-clause-lamp : goal.returns-clause-lamp
returns-clause-lamp c = lamp_is_promised

pub returns-clause-begins : goal.returns-clause-begins
returns-clause-begins c = lost_begins_none

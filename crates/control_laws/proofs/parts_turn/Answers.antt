use Rattle.control_laws.proofs.PartTurns.{reaches_all, awaits, one_by_one, goes_on_at_once, side_by_side, chooses, next_round, same_round, empty_ends}
use Rattle.control_laws.proofs.parts_turn.Goals as goal

pub returns-clause-reach : goal.returns-clause-reach
returns-clause-reach c = reaches_all

pub returns-clause-await_ : goal.returns-clause-await_
returns-clause-await_ c = awaits

pub returns-clause-seq : goal.returns-clause-seq
returns-clause-seq c = one_by_one

pub returns-clause-at_once : goal.returns-clause-at_once
returns-clause-at_once c = goes_on_at_once

pub returns-clause-both : goal.returns-clause-both
returns-clause-both c = side_by_side

pub returns-clause-choose : goal.returns-clause-choose
returns-clause-choose c = chooses

pub returns-clause-round : goal.returns-clause-round
returns-clause-round c = next_round

pub returns-clause-same : goal.returns-clause-same
returns-clause-same c = same_round

pub returns-clause-empty : goal.returns-clause-empty
returns-clause-empty c = empty_ends

use Rattle.control_laws.proofs.BranchExamples.{branches_end, first_branch_wins}
use Rattle.control_laws.proofs.ChoiceExamples.{true_takes_first, false_takes_second, chooses_once_in_a_round}
use Rattle.control_laws.proofs.RoundExamples.{rounds_take_turns, reset_begins_again, empty_ends_in_a_turn}
use Rattle.control_laws.proofs.examples.Goals as goal

pub returns-clause-rounds : goal.returns-clause-rounds
returns-clause-rounds c = rounds_take_turns

pub returns-clause-reset : goal.returns-clause-reset
returns-clause-reset c = reset_begins_again

pub returns-clause-empty : goal.returns-clause-empty
returns-clause-empty c = empty_ends_in_a_turn

pub returns-clause-branches : goal.returns-clause-branches
returns-clause-branches c = branches_end

pub returns-clause-clash : goal.returns-clause-clash
returns-clause-clash c = first_branch_wins

pub returns-clause-always : goal.returns-clause-always
returns-clause-always c = true_takes_first

pub returns-clause-never : goal.returns-clause-never
returns-clause-never c = false_takes_second

pub returns-clause-once : goal.returns-clause-once
returns-clause-once c = chooses_once_in_a_round

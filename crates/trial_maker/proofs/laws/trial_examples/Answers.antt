use Rattle.trial_maker.proofs.ComputedDocuments.{first_number, first_draw, first_guard, first_goal, first_fault, least_seed, seed_seven, greatest_seed}
use Rattle.trial_maker.proofs.laws.trial_examples.Goals as goal

pub returns-clause-number : goal.returns-clause-number
returns-clause-number c = first_number

pub returns-clause-draw : goal.returns-clause-draw
returns-clause-draw c = first_draw

pub returns-clause-guard : goal.returns-clause-guard
returns-clause-guard c = first_guard

pub returns-clause-goal : goal.returns-clause-goal
returns-clause-goal c = first_goal

pub returns-clause-fault : goal.returns-clause-fault
returns-clause-fault c = first_fault

pub returns-clause-least : goal.returns-clause-least
returns-clause-least c = least_seed

pub returns-clause-seven : goal.returns-clause-seven
returns-clause-seven c = seed_seven

pub returns-clause-greatest : goal.returns-clause-greatest
returns-clause-greatest c = greatest_seed

use Rattle.cca_laws.proofs.RightExamples.{wrong_is_not_right, faults_excuse, resets_end_excuses, reset_keeps_ticks}
use Rattle.cca_laws.proofs.examples.right.Goals as goal

pub returns-clause-wrong : goal.returns-clause-wrong
returns-clause-wrong c = wrong_is_not_right

pub returns-clause-faults : goal.returns-clause-faults
returns-clause-faults c = faults_excuse

pub returns-clause-reset : goal.returns-clause-reset
returns-clause-reset c = reset_keeps_ticks

pub returns-clause-resets : goal.returns-clause-resets
returns-clause-resets c = resets_end_excuses

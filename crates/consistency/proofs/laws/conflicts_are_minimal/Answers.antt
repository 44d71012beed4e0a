use Rattle.consistency.proofs.MinimalConflict.{conflicts_are_minimal, there_is_one_conflict}
use Rattle.consistency.proofs.laws.conflicts_are_minimal.Goals as goal

pub returns-clause-minimal : goal.returns-clause-minimal
returns-clause-minimal c = conflicts_are_minimal

pub returns-clause-one : goal.returns-clause-one
returns-clause-one c = there_is_one_conflict

use Rattle.model_numbers.proofs.SmallCounts.{counts_are_small, no_mode_is_none}
use Rattle.model_numbers.proofs.laws.numbers_fit.Goals as goal

pub returns-clause-counts : goal.returns-clause-counts
returns-clause-counts c = counts_are_small

pub returns-clause-no_mode : goal.returns-clause-no_mode
returns-clause-no_mode c = no_mode_is_none

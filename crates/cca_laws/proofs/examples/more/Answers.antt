use Rattle.cca_laws.proofs.MoreExamples.{wrong_after_right, broken_is_no_goal, mirrored_is_not_observed, once_before_tick}
use Rattle.cca_laws.proofs.examples.more.Goals as goal

pub returns-clause-after : goal.returns-clause-after
returns-clause-after c = wrong_after_right

pub returns-clause-broken : goal.returns-clause-broken
returns-clause-broken c = broken_is_no_goal

pub returns-clause-mirrored : goal.returns-clause-mirrored
returns-clause-mirrored c = mirrored_is_not_observed

pub returns-clause-once : goal.returns-clause-once
returns-clause-once c = once_before_tick

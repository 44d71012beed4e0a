use Rattle.cca_laws.proofs.OneTrace.{one_seen, one_fixed_trace, as_many_as_ticks}
use Rattle.cca_laws.proofs.laws.traces.Goals as goal

pub returns-clause-observed : goal.returns-clause-observed
returns-clause-observed c = one_seen

pub returns-clause-fixed : goal.returns-clause-fixed
returns-clause-fixed c = one_fixed_trace

pub returns-clause-many : goal.returns-clause-many
returns-clause-many c = as_many_as_ticks

use Rattle.trace_laws.proofs.TablesChangeNothing.{taken_tables_cover, kept_tables_give_trace, kept_tables_change_nothing}
use Rattle.trace_laws.proofs.kept_tables.Goals as goal

pub returns-clause-trace : goal.returns-clause-trace
returns-clause-trace c = kept_tables_give_trace

pub returns-clause-same : goal.returns-clause-same
returns-clause-same c = kept_tables_change_nothing

pub returns-clause-cover : goal.returns-clause-cover
returns-clause-cover c = taken_tables_cover

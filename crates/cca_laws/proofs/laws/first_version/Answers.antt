use Rattle.cca_laws.proofs.FirstVersion.{rules_as_before, first_is_second, mendings_as_before}
use Rattle.cca_laws.proofs.laws.first_version.Goals as goal

pub returns-clause-rules : goal.returns-clause-rules
returns-clause-rules c = rules_as_before

pub returns-clause-second : goal.returns-clause-second
returns-clause-second c = first_is_second

pub returns-clause-mendings : goal.returns-clause-mendings
returns-clause-mendings c = mendings_as_before

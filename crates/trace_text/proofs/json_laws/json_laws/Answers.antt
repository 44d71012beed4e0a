use Rattle.trace_text.proofs.KeyOrder.{keys_rise}
use Rattle.trace_text.proofs.SameMembers.{members_stay}
use Rattle.trace_text.proofs.PlainNames.{names_are_plain}
use Rattle.trace_text.proofs.json_laws.json_laws.Goals as goal

pub returns-clause-rising : goal.returns-clause-rising
returns-clause-rising c = keys_rise

pub returns-clause-same : goal.returns-clause-same
returns-clause-same c = members_stay

pub returns-clause-plain_names : goal.returns-clause-plain_names
returns-clause-plain_names c = names_are_plain

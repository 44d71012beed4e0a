use Rattle.group_search.proofs.ValueLaws.{one_only}
use Rattle.group_search.proofs.values.only.Goals as goal

pub returns-clause-alone : goal.returns-clause-alone
returns-clause-alone c = one_only c.args.value c.requires.small

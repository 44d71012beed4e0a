use Rattle.std.proofs.Common.{arith}
use Rattle.group_search.proofs.ValueLaws.{cleared_gone, cleared_kept, cleared_sum, cleared_within}
use Rattle.group_search.proofs.values.without.Goals as goal

pub returns-clause-sum : goal.returns-clause-sum
returns-clause-sum c = cleared_sum c.args.word c.args.value (omega arith) c.requires.small c.requires.has

pub returns-clause-kept : goal.returns-clause-kept
returns-clause-kept c = cleared_kept c.args.word c.args.value (omega arith) c.requires.small

pub returns-clause-within : goal.returns-clause-within
returns-clause-within c = cleared_within c.args.word c.args.value (omega arith) c.requires.small

pub returns-clause-gone : goal.returns-clause-gone
returns-clause-gone c = cleared_gone c.args.word c.args.value (omega arith) c.requires.small

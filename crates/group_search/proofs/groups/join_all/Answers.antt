use Rattle.std.proofs.Common.{◌∙◌, arith}
use Rattle.group_search.proofs.JoinLaws.{zero_all, zero_there}
use Rattle.group_search.proofs.groups.join_all.Goals as goal

pub loop-at-preserved : goal.loop-at-preserved
loop-at-preserved c = c.set.ensures ∙ zero_there c.args.names.now c.loop-at.names c.loop-at.at (omega (arith, c.loop-at-test.true, c.len-at-end.ensures)) c.loop-at.invariant

pub returns-clause-one : goal.returns-clause-one
returns-clause-one c = zero_all c.args.names.now c.loop-at.names c.loop-at.at (omega (arith, c.loop-at-test.false, c.len-at-end.ensures)) c.loop-at.invariant

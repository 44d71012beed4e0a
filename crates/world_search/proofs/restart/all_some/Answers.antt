use Rattle.std.proofs.Common.{slice_index, arith}
use Rattle.world_search.proofs.SettleLaws.{some_member}
use Rattle.world_search.proofs.restart.all_some.Goals as goal

pub returns-clause-yes : goal.returns-clause-yes
returns-clause-yes c _ v h = some_member (slice_index c.args.base.now v) (omega (arith, c.type_inv.base v)) (c.loop-v.invariant v (omega arith))

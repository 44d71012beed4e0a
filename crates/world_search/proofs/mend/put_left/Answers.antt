use Rattle.std.proofs.Common.{arith}
use Rattle.world_search.proofs.SettleLaws.{some_ne}
use Rattle.world_search.proofs.mend.put_left.Goals as goal

pub least-requires : goal.least-requires
least-requires c = some_ne c.args.start.now c.loop-v.v (c.requires.sets.some c.loop-v.v (omega arith))

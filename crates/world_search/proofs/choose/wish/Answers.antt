use Rattle.world_search.proofs.SettleLaws.{some_ne}
use Rattle.world_search.proofs.choose.wish.Goals as goal

pub least-requires : goal.least-requires
least-requires c = some_ne c.args.dom.now c.loop-v.v (c.requires.sets.some c.loop-v.v c.loop-v-test.true)

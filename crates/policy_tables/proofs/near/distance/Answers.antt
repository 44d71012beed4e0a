use Rattle.std.proofs.Common.{arith}
use Rattle.policy_tables.proofs.Halving.{first_found}
use Rattle.policy_tables.proofs.near.distance.Goals as goal

pub returns-then-low-height : goal.returns-then-low-height
returns-then-low-height c =
    first_found c.args.paths.now.levels c.args.from c.args.to c.halving.low c.halving.high c.halving.invariant (omega (arith, c.halving-test.false)) (omega (arith, c.if-low-height.true, c.height.ensures))

use Rattle.std.proofs.Common.{bit_and, sym, ap, ◌∙◌}
use Rattle.consistency.proofs.FollowsLaws.{one_more_out}
use Rattle.consistency.proofs.refuted.are_out.Goals as goal

pub loop-literal-preserved : goal.loop-literal-preserved
loop-literal-preserved c xs solution =
    one_more_out xs c.args.literals.now c.loop-literal.literal-index c.literal-item.result c.loop-literal-test.true c.literal-item.is
    c.left.result (c.left.ensures.world xs solution) (ap (bit_and c.left.result) (sym c.bits.ensures) ∙ c.if-left-bits-ne0.false) (c.loop-literal.invariant xs solution)

use Rattle.std.proofs.Common.{arith}
use Rattle.std.proofs.lemmas.Result.{on_ok_weaker}
use Rattle.control_syntax.proofs.Places.{put_last}
use Rattle.control_syntax.proofs.place.put.Goals as goal

pub returns-else-count-eq0-clause-ok : goal.returns-else-count-eq0-clause-ok
returns-else-count-eq0-clause-ok c =
    on_ok_weaker c.push-else-count-eq0.result (λ e. put_last c.args.parts.now c.args.blocks.now c.args.part c.index-blocks-count.result c.push-else-count-eq0.new.self (omega (arith, c.if-count-eq0.false)) e) c.push-else-count-eq0.ensures.ok

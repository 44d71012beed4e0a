use Rattle.std.proofs.Common.{◌≡◌, length, arith}
use Rattle.std.proofs.lemmas.Result.{on_ok_weaker}
use Rattle.control_syntax.proofs.Places.{around_some}
use Rattle.control_syntax.proofs.place.put_around.Goals as goal

pub returns-else-count-lt2-clause-ok : goal.returns-else-count-lt2-clause-ok
returns-else-count-lt2-clause-ok c =
    let items = c.args.blocks.now.items in
    let n : c.len-count.result ≡ length items = omega (arith, c.len-count.ensures, c.args.blocks.now.ok.0) in
    let read = rw n at c.index_mut-block.ensures.value in
    rw n
    (on_ok_weaker c.push-else-count-lt2.result
    (λ e front b are. around_some c.args.parts.now items front b c.index_mut-block.result.now c.args.part c.push-else-count-lt2.new.self (omega (arith, n, c.if-count-lt2.false)) read e are)
    c.push-else-count-lt2.ensures.ok)
